-- What the strict reader's state says of the bytes that follow.
use Rattle.std.proofs.Common.{◌≡◌, ℕ, ◌-◌, ◌<◌, ◌≤◌, ◌⊎◌, Option, Some, None, List, [], ◌++◌, length, refl, sym, ap, ◌∙◌, subst, inl, inr, arith, append-nil, Ok, Err, IsTrue}
use Rattle.cbor_head.specs.Prelude.{head, Bounds, AreBounds, bounds, with_keys, Spelling, IsItem, Rules, strict, Complains, HasNoneOf}
use Rattle.cbor_head.specs.{Laws.StartsWith, declared.keys.Keys.Keys, declared.order.KeyOrder.KeyOrder, declared.reason.Refusal.Refusal}
use Rattle.cbor_head.specs.declared.{reason.Reason.Reason, reason.Reason.TheVariants.Memory, event.Event.Event, event.EventKind.EventKind}
use Rattle.cbor_head.specs.declared.event.EventKind.TheVariants.{Piece}
use Rattle.theory_values.proofs.Agree.{same_complaints}
use Rattle.theory_automaton.specs.{Trace.Mark, Bytes.IsBytesOf, Bytes.last_type, Marks.marks_of}
use Rattle.cbor_machine.specs.NextEvent.{ItemEventsView, AgreesBetween, Call, call, machine_call, IsCut, IsTooLong, HasFormError, IsNextEvent, IsKept as IsPieceKept}
use Rattle.cbor_machine.specs.{MachineView.MachineView, Machine.KeepsLimits}
use Rattle.theory_verdicts.{specs.Refusals.IsReaderReason, specs.Judged.IsJudged, specs.Reading.string_major, proofs.Tops.starts-at}
use Rattle.theory_verdicts.{proofs.KindFrames.keeps_start, proofs.Decisions.none_beside, specs.Kinds.KeepsToKinds, proofs.Judged.judged_start}
use Rattle.theory_verdicts.proofs.{CutHeads.string_cut, OpenSteps.none_open, Steps.same-marks}
use Rattle.cbor_strict.specs.inner.OpenItems.{frames_in, bytes_before, Agrees}
use Rattle.cbor_strict.specs.StrictReader.{StrictEventsView, AgreesStrictly, IsNextStrict, IsStrictRefusal, IsAgainstEvent, IsMapHead, StopsAtOnce, strict_call}
use Rattle.cbor_strict.specs.inner.StrictEvents.{AgreesWithSome, IsStep, ReturnsStep, IsLittle, AreWithinBounds, bounds_of, piece_unless}
use Rattle.cbor_strict.specs.{declared.last_keys.LastKeys.LastKeys, declared.open_items.OpenItems.OpenItems, inner.LastKeys.view_value, inner.LastKeys.IsKept}
use Rattle.cbor_strict.proofs.{KeptKeys.has_span, KeptReading.agrees_counted, KeptReading.agrees_little, OpenBegins.lift}

-- ---- nothing has a complaint

-- what was found of one item holds of each that starts with the same bytes
none_within : (o : KeyOrder) (d : ℕ) (t : List ℕ) → IsJudged (strict o) 0 d t None → (s : Spelling) → StartsWith d s t → HasNoneOf (Complains (strict o) 0 s) (length t)
none_within o d t j s i c h l =
    let k = same_complaints d s j.item t i.0 j.rest i.1 j.is (strict o) c l h in
    let late = j.finding.1 c k in
    absurd (omega (arith, late, l))

all_levels : (o : KeyOrder) (d : ℕ) (t : List ℕ) → IsJudged (strict o) 0 (d - 0) t None → IsJudged (strict o) 0 d t None
all_levels o d t j = let e : d - 0 ≡ d = omega arith in subst (λ (n : ℕ). IsJudged (strict o) 0 n t None) e j

pub agrees_clean : (v : OpenItems) (b : Bounds) (e : ItemEventsView) (t : List ℕ) → Agrees v b e t → (s : Spelling) → StartsWith b.depth s t → HasNoneOf (Complains (strict v.order) 0 s) (length t)
agrees_clean v b e t (inl h) =
    none_within v.order b.depth t (subst (λ (x : List ℕ). IsJudged (strict v.order) 0 b.depth x None) (append-nil (bytes_before h.fs) ∙ sym h.taken) (all_levels v.order b.depth (bytes_before h.fs ++ [])
    (lift v.order b h.fs h.around.are h.around.distinct [] None (judged_start (strict v.order) (length (bytes_before h.fs)) (b.depth - length (frames_in h.fs))))))
agrees_clean v b e t (inr (inl h)) =
    none_within v.order b.depth t (subst (λ (x : List ℕ). IsJudged (strict v.order) 0 b.depth x None) (sym h.taken) (all_levels v.order b.depth (bytes_before h.fs ++ (head (string_major v.is_text) h.w h.n ++ h.q))
    (lift v.order b h.fs h.around.are h.around.distinct (head (string_major v.is_text) h.w h.n ++ h.q) None
    (string_cut h.w h.n h.q h.holds h.are_bytes (omega (arith, h.count, h.some)) (strict v.order) (length (bytes_before h.fs)) (b.depth - length (frames_in h.fs)) v.is_text h.clean))))
agrees_clean v b e t (inr (inr h)) = λ s i c k l.
    let whole : IsItem b.depth h.item (t ++ []) = record { spelled = h.spelled; within = h.within; bytes_are = sym h.taken ∙ sym (append-nil t) } in
    absurd (h.clean c (same_complaints b.depth s h.item t i.0 [] i.1 whole (strict v.order) c l k))

-- ---- before the first byte

pub agrees_first : (limits : Bounds) (e : ItemEventsView) (v : OpenItems) → AreBounds limits → e.refusal ≡ None → (e.machine.depth ≡ limits.depth) × (e.machine.bytes ≡ limits.bytes) → AgreesBetween e.machine [] [] → v.left ≡ 0 → IsKept (view_value v.keys) [] [] → Agrees v limits e []
agrees_first limits e v within live same h none kept =
    inl (record { fs = []; around = record { are = none_open (strict v.order) limits.depth; distinct = tt }; none = none; kept = kept; taken = refl; at = starts-at limits e within live same h })

-- ---- no event is left out before it

-- the form refuses
pub by_form : (o : KeyOrder) (spans : ℕ) (f : Refusal) (c : Call) → IsCut f c ⊎ IsTooLong f c ⊎ HasFormError f c → StopsAtOnce o spans f c
by_form o spans f c h = elim h [ inl x ↦ inl x | inr (inl x) ↦ inr (inl x) | inr (inr x) ↦ inr (inr (inl x)) ]

-- an event is withheld
pub by_event : (o : KeyOrder) (spans : ℕ) (f : Refusal) (ev : Event) (c : Call) → IsNextEvent ev c → ((n : ℕ) → ev.kind ≡ Piece n → n ≤ 512) → f.read ≡ c.new.taken → IsAgainstEvent o f.reason → (f.reason ≡ Memory → (0 < spans) ⊎ IsMapHead ev.kind) → StopsAtOnce o spans f c
by_event o spans f ev c h small read against needed = inr (inr (inr (inl (record {
  width = ev.width;
  kind = ev.kind;
  bytes = h.bytes;
  consumed = h.consumed;
  are = h.are;
  piece = small;
  read = read ∙ h.agrees.agrees.taken;
  agrees = h.agrees;
  against = against;
  needed = needed;
}))))

pub small_piece : (ev : Event) (c : Call) (piece : List ℕ) → IsNextEvent ev c → piece ≡ c.new_piece → length piece ≤ 512 → (n : ℕ) → ev.kind ≡ Piece n → n ≤ 512
small_piece ev c piece h is l n e =
    let size : length h.bytes ≡ n = subst (λ (k : EventKind). IsBytesOf (last_type None c.reported) ev.width k h.bytes) e h.are.1 in
    let kept : c.new_piece ≡ h.bytes = subst (λ (k : EventKind). IsPieceKept k c.old_piece c.new_piece h.bytes) e h.piece_is in
    let same = ap length (is ∙ kept) in
    omega (arith, size, same, l)

-- a key that is not complete is one of an open map
pub agrees_span : (v : OpenItems) (b : Bounds) (e : ItemEventsView) (t : List ℕ) → Agrees v b e t → 0 < (view_value v.keys).open_keys → 0 < length (view_value v.keys).spans
agrees_span v b e t (inl h) some = has_span (view_value v.keys) h.fs [] h.kept some
agrees_span v b e t (inr (inl h)) some = has_span (view_value v.keys) h.fs _ h.kept some
agrees_span v b e t (inr (inr h)) some = has_span (view_value v.keys) [] _ h.kept some

-- whatever piece is held
stops_too : (o : KeyOrder) (spans : ℕ) (f : Refusal) (m n : MachineView) (held left : Option (List ℕ)) (a b x y t : List ℕ) (ms : List Mark) → StopsAtOnce o spans f (machine_call m n held left a b t ms) → StopsAtOnce o spans f (machine_call m n held left x y t ms)
stops_too o spans f m n held left a b x y t ms h = elim h [
  | inl k ↦ inl (record { bytes = k.bytes; consumed = k.consumed; reason = k.reason; is = k.is; verdict = k.verdict; short = k.short; agrees = k.agrees; unfinished = k.unfinished })
  | inr (inl k) ↦ inr (inl (record { bytes = k.bytes; consumed = k.consumed; is = k.is; full = k.full; verdict = k.verdict; agrees = k.agrees; unfinished = k.unfinished }))
  | inr (inr (inl k)) ↦ inr (inr (inl (record { bytes = k.bytes; byte = k.byte; consumed = k.consumed; is = k.is; cannot_follow = k.cannot_follow; verdict = k.verdict; agrees = k.agrees; unfinished = k.unfinished })))
  | inr (inr (inr (inl k))) ↦ inr (inr (inr (inl (record { width = k.width; kind = k.kind; bytes = k.bytes; consumed = k.consumed; are = k.are; piece = k.piece; read = k.read; agrees = k.agrees; against = k.against; needed = k.needed }))))
  | inr (inr (inr (inr k))) ↦ inr (inr (inr (inr (record { unfinished = k.unfinished; byte = k.byte; small = k.small; consumed = k.consumed; other = k.other; item = k.item; follows = k.follows; is = k.is }))))
]

-- ---- what is reported next

-- as contracts see it
abbrev pub shown : ItemEventsView → OpenItems → Keys → Option Refusal → StrictEventsView
shown e v keys r = record {
  machine = e.machine;
  piece = piece_unless r e.piece;
  order = v.order;
  keys = keys;
  spans = length (view_value v.keys).spans;
  kept = length (view_value v.keys).bytes;
  refusal = r;
  refused = v.memory;
  inner = record { events = e; items = v };
}

agrees_strictly : (e : ItemEventsView) (v : OpenItems) (keys : Keys) (t : List ℕ) (ms : List Mark) → AgreesBetween e.machine t ms → Agrees v (bounds_of e.machine keys) e t → KeepsToKinds (bounds_of e.machine keys) (strict v.order) t → AgreesStrictly (shown e v keys None) t ms
agrees_strictly e v keys t ms h s keeps =
    let b = bounds_of e.machine keys in
    record {
      between = h;
      clean = λ i k. none_beside b (strict v.order) i (length t) (λ asked c o l. keeps asked i c k o l) (agrees_clean v b e t s i k);
      spans = λ i k. (agrees_counted v b e t s i k).spans;
      kept = λ i k. (agrees_counted v b e t s i k).kept;
      live = refl;
      inner = record { machine_is = refl; order_is = refl; agrees = s; keeps = keeps };
    }

pub same_bounds : (old new : MachineView) (keys : Keys) → KeepsLimits old new → bounds_of old keys ≡ bounds_of new keys
same_bounds old new keys h = ap (λ (d : ℕ). with_keys (bounds d old.bytes) keys) (sym h.depth) ∙ ap (λ (n : ℕ). with_keys (bounds new.depth n) keys) (sym h.bytes)

-- the limits that the events were made with
pub first_bounds : (limits : Bounds) (keys : Keys) (e : ItemEventsView) → keys ≡ limits.keys → (e.machine.depth ≡ limits.depth) × (e.machine.bytes ≡ limits.bytes) → bounds_of e.machine keys ≡ limits
first_bounds limits keys e asks same = ap (λ (n : ℕ). with_keys (bounds e.machine.depth n) keys) same.1 ∙ ap (λ (d : ℕ). with_keys (bounds d limits.bytes) keys) same.0 ∙ ap (with_keys (bounds limits.depth limits.bytes)) asks

pub starts_strictly : (limits : Bounds) (keys : Keys) (e : ItemEventsView) (v : OpenItems) → keys ≡ limits.keys → AreBounds limits → e.refusal ≡ None → (e.machine.depth ≡ limits.depth) × (e.machine.bytes ≡ limits.bytes) → AgreesBetween e.machine [] [] → v.left ≡ 0 → IsKept (view_value v.keys) [] [] → AgreesStrictly (shown e v keys None) [] []
starts_strictly limits keys e v asks within live same h none kept =
    agrees_strictly e v keys [] [] h (subst (λ (b : Bounds). Agrees v b e []) (sym (first_bounds limits keys e asks same)) (agrees_first limits e v within live same h none kept)) (keeps_start (bounds_of e.machine keys) (strict v.order))

pub somewhere_little : (e : ItemEventsView) (v : OpenItems) (keys : Keys) → AgreesWithSome keys v e → IsLittle v e
somewhere_little e v keys h = agrees_little v h.b e h.t h.agrees

pub starts_within : (limits : Bounds) (keys : Keys) (e : ItemEventsView) (v : OpenItems) → keys ≡ limits.keys → AreBounds limits → e.refusal ≡ None → (e.machine.depth ≡ limits.depth) × (e.machine.bytes ≡ limits.bytes) → AgreesBetween e.machine [] [] → v.left ≡ 0 → IsKept (view_value v.keys) [] [] → AreWithinBounds e v keys None
starts_within limits keys e v asks within live same h none kept =
    let there : AgreesWithSome keys v e = record { b = limits; asks = sym asks; t = []; agrees = agrees_first limits e v within live same h none kept; keeps = keeps_start limits (strict v.order) } in
    record {
      agrees = λ n. there;
      stopped = tt;
      memory = tt;
      limits = (omega (arith, within.0, same.0), omega (arith, within.1, same.1));
      within = h.agrees.bounded;
      limited = h.agrees.limited;
      little = somewhere_little e v keys there;
    }

-- for any limits that restrict keys in the same way
reason_as : (r : Rules) (limits others : Bounds) (x : Reason) → limits.keys ≡ others.keys → IsReaderReason limits r x → IsReaderReason others r x
reason_as r limits others x e (inl h) = inl h
reason_as r limits others x e (inr (inl (inl h))) = inr (inl (inl h))
reason_as r limits others x e (inr (inl (inr h))) = inr (inl (inr (h.0, h.1, sym e ∙ h.2)))
reason_as r limits others x e (inr (inr h)) = inr (inr h)

module _ (e after : ItemEventsView) (v new : OpenItems) (keys : Keys) (from to : Option (List ℕ)) (limits : KeepsLimits e.machine after.machine) where
  reported_strictly : (o : Option Event) (t : List ℕ) (ms : List Mark) → (AgreesStrictly (shown e v keys None) t ms) → IsStep o new (bounds_of e.machine keys) e after t from to → IsNextStrict (Ok o) (strict_call (shown e v keys None) (shown after new keys None) from to t ms)
  reported_strictly (Some event) t ms h g =
      let same = same_bounds e.machine after.machine keys limits in
      subst (λ (ns : List Mark). IsNextStrict (Ok (Some event)) (strict_call (shown e v keys None) (shown after new keys None) from to t ns)) (same-marks e.machine t g.marks ms g.between h.between)
      (record {
        event = g.next;
        agrees = agrees_strictly after new keys (t ++ g.next.bytes) (g.marks ++ marks_of event.width event.kind) g.next.agrees (subst (λ (b : Bounds). Agrees new b after (t ++ g.next.bytes)) same g.agrees)
            (subst (λ (b : Bounds). KeepsToKinds b (strict new.order) (t ++ g.next.bytes)) same g.keeps);
      })
  reported_strictly None t ms h g =
      let same = same_bounds e.machine after.machine keys limits in
      subst (λ (ns : List Mark). IsNextStrict (Ok None) (strict_call (shown e v keys None) (shown after new keys None) from to t ns)) (same-marks e.machine t g.marks ms g.between h.between)
      (record {
        end = g.end;
        agrees = agrees_strictly after new keys t g.marks g.end.agrees (subst (λ (b : Bounds). Agrees new b after t) same (inr (inr g.over))) (subst (λ (b : Bounds). KeepsToKinds b (strict new.order) t) same g.keeps);
      })

  pub next_reported : (o : Option Event) (r : Option Refusal) → ReturnsStep keys v new e after from to (Ok o) → (t : List ℕ) (ms : List Mark) → AgreesStrictly (shown e v keys r) t ms → IsNextStrict (Ok o) (strict_call (shown e v keys r) (shown after new keys r) from to t ms)
  next_reported o None returned t ms h = reported_strictly o t ms h (returned (bounds_of e.machine keys) t refl h.inner.agrees h.inner.keeps)
  next_reported o (Some f) returned t ms h = absurd (cc h.live)

  pub next_refused : (f : Refusal) (r : Option Refusal) (last : OpenItems) → ReturnsStep keys v new e after from to (Err f) → ((t : List ℕ) (ms : List Mark) → AgreesBetween e.machine t ms → StopsAtOnce v.order (length (view_value v.keys).spans) f (call e after from to t ms)) → (t : List ℕ) (ms : List Mark) → AgreesStrictly (shown e v keys r) t ms
      → IsStrictRefusal f (strict_call (shown e v keys r) (shown after last keys (Some f)) from to t ms)
  next_refused f None last returned at_once t ms h =
      let s = returned (bounds_of e.machine keys) t refl h.inner.agrees h.inner.keeps in
      record {
        unfinished = s.0;
        bytes = s.1.bytes;
        consumed = s.1.consumed;
        read = s.1.read;
        at_once = stops_too v.order (length (view_value v.keys).spans) f e.machine after.machine from to e.piece after.piece e.piece [] t ms (at_once t ms h.between);
        verdict = s.1.unread;
      }
  next_refused f (Some x) last returned at_once t ms h = absurd (cc h.live)

  pub agrees_next : (o : Option Event) → AgreesWithSome keys v e → ReturnsStep keys v new e after from to (Ok o) → AgreesWithSome keys new after
  agrees_next (Some event) h returned = let g = returned h.b h.t h.asks h.agrees h.keeps in record { b = h.b; asks = h.asks; t = h.t ++ g.next.bytes; agrees = g.agrees; keeps = g.keeps }
  agrees_next None h returned = let g = returned h.b h.t h.asks h.agrees h.keeps in record { b = h.b; asks = h.asks; t = h.t; agrees = inr (inr g.over); keeps = g.keeps }

  pub refused_reason : (b : Bounds) (f : Refusal) → b.keys ≡ keys → AgreesWithSome keys v e → ReturnsStep keys v new e after from to (Err f) → IsReaderReason b (strict v.order) f.reason
  refused_reason b f same h returned = reason_as (strict v.order) h.b b f.reason (h.asks ∙ sym same) (returned h.b h.t h.asks h.agrees h.keeps).1.reason

  pub within_next : (o : Option Event) (r : Option Refusal) → r ≡ None → AreWithinBounds e v keys r → ReturnsStep keys v new e after from to (Ok o) → AreWithinBounds after new keys r
  within_next o r none h returned =
      let there = agrees_next o (h.agrees none) returned in
      record {
        agrees = λ n. there;
        stopped = rw none tt;
        memory = rw none tt;
        limits = (omega (arith, h.limits.0, limits.depth), omega (arith, h.limits.1, limits.bytes));
        within = limits.open_count;
        limited = limits.taken;
        little = somewhere_little after new keys there;
      }

  -- nothing is stored after a refusal
  pub within_stopped : (f : Refusal) (r : Option Refusal) (last : LastKeys) → r ≡ None → AreWithinBounds e v keys r → ReturnsStep keys v new e after from to (Err f) → new.order ≡ v.order → after.machine.taken ≡ f.read → IsKept (view_value last) [] [] → (f.reason ≡ Memory → IsTrue new.memory) → AreWithinBounds after (record new { keys = last }) keys (Some f)
  within_stopped f r last none h returned same read kept memory = record {
    agrees = λ n. absurd (cc n);
    stopped = (
      sym read,
      subst (λ (o : KeyOrder). IsReaderReason (bounds_of after.machine keys) (strict o) f.reason) (sym same) (refused_reason (bounds_of after.machine keys) f refl (h.agrees none) returned),
      ap length kept.spans,
      ap length kept.bytes,
    );
    memory = memory;
    limits = (omega (arith, h.limits.0, limits.depth), omega (arith, h.limits.1, limits.bytes));
    within = limits.open_count;
    limited = limits.taken;
    little = record { levels = omega (arith, ap length kept.levels); spans = omega (arith, ap length kept.spans); kept = omega (arith, ap length kept.bytes) };
  }
