-- What a step returns: that of all bytes so far, whatever follows.
use Rattle.std.proofs.Common.{◌≡◌, ◌≢◌, ℕ, ◌+◌, ◌/◌, ◌<◌, ◌≤◌, ◌↔◌, Bool, true, false, IsTrue, Option, Some, None, Ok, Err, List, [], ◌∷◌, ◌++◌, length, refl, sym, ap, ◌∙◌, subst, inl, inr, arith, append_assoc, append-nil, length-append, length-take, take, take_all, ◌⊎◌}
use Rattle.std.{specs.Io.KnownBytes.Consumes, proofs.lemmas.List.nil_from_length, proofs.lemmas.List.take_at}
use Rattle.cbor_head.specs.Prelude.{Bounds, AreBytes, IsBeginning, strict, refusal}
use Rattle.cbor_head.specs.declared.reason.Reason.TheVariants.{Truncated, Read, KeyKind}
use Rattle.cbor_head.specs.declared.{event.EventKind.TheVariants.Piece, order.KeyOrder.KeyOrder, reason.Refusal.Refusal, reason.Reason.Reason}
use Rattle.cbor_head.specs.declared.event.{Event.Event, EventKind.EventKind}
use Rattle.theory_values.{specs.FirstBytes.is_basic, proofs.ByteLists.bytes_join}
use Rattle.theory_automaton.specs.{Reasons.IsMachineReason, Reasons.IsEventReason, Bytes.IsEventBytes, Pieces.piece_by, Trace.Mark}
use Rattle.theory_automaton.proofs.{Runs.run-on, Beginnings.reached-begins}
use Rattle.cbor_machine.specs.NextEvent.{ItemEventsView, AgreesBetween, Call, call, IsNext, IsNextEvent, IsTooLong, HasFormError, IsKept as IsPieceKept}
use Rattle.cbor_machine.specs.NextKey.{IsBasicKind, IsAfterBasic, IsOtherKey, IsNextOf, IsKeyReason}
use Rattle.cbor_machine.specs.Machine.{Represents, KeepsLimits, IsComplete, IsGiven, IsRefused, IsResult, IsDone, IfRefused, before}
use Rattle.cbor_machine.specs.declared.step.Out.TheVariants as outs
use Rattle.cbor_machine.{specs.Steps.IsStep, specs.State.state_of, specs.MachineView.MachineView, specs.declared.step.Out.Out, proofs.NextEvents.event-here}
use Rattle.cbor_machine.proofs.NextRefusals.{still-expected, stopped-here}
use Rattle.theory_verdicts.specs.{RefusedAfter.IsRefusedAfter, Readers.IsUnread, Refusals.IsReaderReason, Kinds.KeepsToKinds}
use Rattle.theory_verdicts.proofs.{Payloads.IsPiece, Steps.SameLimits}
use Rattle.cbor_strict.specs.inner.OpenItems.{Agrees, IsEventCome, ReturnsEvent}
use Rattle.cbor_strict.proofs.Admitted.{event_come, event_admitted, event_refused}
use Rattle.cbor_strict.specs.{declared.open_items.OpenItems.OpenItems, inner.StrictEvents.GoesOn, StrictReader.IsAgainstEvent}
use Rattle.cbor_strict.proofs.StrictStops.{stopped_there}
use Rattle.cbor_stream.specs.inner.Amid.{IsAmid, IsTaken, IsRefusedNow, IsStepResult, asks_of}
use Rattle.cbor_stream.specs.AtOnce.{AreMarksWithin, IsAtOnce, at_place, withheld}
use Rattle.cbor_stream.proofs.Amid.{amid_represents, amid_bytes, has_read}
use Rattle.cbor_stream.proofs.KeyKinds.{HasStart, kind_so, kind_goes_on, after_so}
use Rattle.cbor_stream.proofs.Asking.{asked_so}

-- ---- as a reader that judges kinds of keys, or not, would return it

reported_as : (asked : Bool) (ev : Event) (c : Call) → IsNextEvent ev c → (asked ≡ true → IsBasicKind ev.kind) → IsNextOf asked (Ok (Some ev)) c
reported_as true ev c n k = (n, k refl)
reported_as false ev c n k = n

refused_as : (asked : Bool) (f : Refusal) (c : Call) → IsNext (Err f) c → (asked ≡ true → IsAfterBasic f c) → IsNextOf asked (Err f) c
refused_as true f c n k = inl (n, k refl)
refused_as false f c n k = n

other_as : (asked : Bool) (f : Refusal) (c : Call) → asked ≡ true → IsOtherKey f c → IsNextOf asked (Err f) c
other_as true f c y k = inr k
other_as false f c y k = absurd (cc y)

machine_event : (r : Reason) → IsMachineReason r → IsEventReason r
machine_event Truncated h = tt
machine_event Read h = tt
machine_event _ h = h

-- a part of a payload is all that was taken
piece_so : (kind : EventKind) → IsPiece kind → (kept since bs bytes : List ℕ) → bytes ≡ since ++ bs → IsPieceKept kind kept (piece_by kind kept bs) bytes → bs ≡ piece_by kind kept bs
piece_so (Piece n) i kept since bs bytes e k =
    let all = k ∙ e in
    let none : since ≡ [] = nil_from_length since (omega (arith, ap length all, length-append since bs, length-take n bs)) in
    sym (all ∙ ap (λ (x : List ℕ). x ++ bs) none)
piece_so _ i kept since bs bytes e k = absurd i

-- what a machine reported
marks_of_machine : (m : MachineView) (t : List ℕ) (ms : List Mark) → Represents m t ms → AreMarksWithin m.depth t ms
marks_of_machine m t ms h = record { beginning = h.beginning; are = λ s i. h.reported s i.0 i.1 }

module _ (m new : MachineView) (v : OpenItems) (b : Bounds) (t bs : List ℕ) (ms : List Mark) (a : IsAmid m v b t ms) (limits : KeepsLimits m new) (are : AreBytes bs) where
  abbrev asked : Bool
  asked = asks_of b.keys v

  -- what a reader would have held before it, and what after
  abbrev held : List ℕ → Option (List ℕ)
  held more = Some (a.since ++ (bs ++ more))

  same_limits : SameLimits a.began.machine new
  same_limits = record { depth = limits.depth ∙ a.depth; bytes = limits.bytes ∙ a.bytes }

  both : AreBytes (a.since ++ bs)
  both = bytes_join a.since bs (amid_bytes m v b t ms a) are

  cut_off : (bytes : List ℕ) → Consumes (held []) (Some []) bytes → bytes ≡ a.since ++ bs
  cut_off bytes c = sym (append-nil bytes) ∙ sym c ∙ ap (λ (x : List ℕ). a.since ++ x) (append-nil bs)

  there : (bytes : List ℕ) → bytes ≡ a.since ++ bs → a.before ++ bytes ≡ t ++ bs
  there bytes e = ap (λ (x : List ℕ). a.before ++ x) e ∙ sym (append_assoc a.before a.since bs) ∙ ap (λ (x : List ℕ). x ++ bs) (sym a.splits)

  along : (more : List ℕ) → a.before ++ (a.since ++ (bs ++ more)) ≡ (t ++ bs) ++ more
  along more = sym (append_assoc a.before a.since (bs ++ more)) ∙ ap (λ (x : List ℕ). x ++ (bs ++ more)) (sym a.splits) ∙ sym (append_assoc t bs more)

  -- what is refused there is refused
  refused_now : (f : Refusal) (w : OpenItems) → w.order ≡ v.order → IsAtOnce v.order f new (t ++ bs) ms → ((more : List ℕ) → IsRefusedAfter (strict v.order) b a.before (held more) (Some more) f) → IsRefusedNow f new w b (t ++ bs) ms
  refused_now f w order at_once h = record {
    read = (h []).read ∙ ap length (there (h []).bytes (cut_off (h []).bytes (h []).consumed));
    at_once = subst (λ (o : KeyOrder). IsAtOnce o f new (t ++ bs) ms) (sym order) at_once;
    reason = subst (λ (o : KeyOrder). IsReaderReason b (strict o) f.reason) (sym order) (h []).reason;
    unread = λ more. subst (λ (o : KeyOrder). IsUnread b (strict o) ((t ++ bs) ++ more) f) (sym order) (subst (λ (x : List ℕ). IsUnread b (strict v.order) x f) (along more) (h more).unread);
  }

  -- ---- an event

  module _ (ev : Event) (some : 0 < length bs) (given : (u : List ℕ) (ns : List Mark) → Represents m u ns → IsGiven ev new u bs ns) where
    abbrev after : ItemEventsView
    after = record { machine = new; piece = piece_by ev.kind a.began.piece bs; refusal = None }

    next : (more u : List ℕ) (ns : List Mark) → AgreesBetween a.began.machine u ns → IsNextEvent ev (call a.began after (held more) (Some more) u ns)
    next more u ns h =
        event-here ev (held more) (Some (bs ++ more)) (Some more) a.began.machine m new a.began.piece bs u bs ns h (has_read m v b t ms a (bs ++ more) u ns h) a.depth (limits.depth ∙ a.depth) refl are some (sym (take_all (length bs) bs (omega arith))) (given (u ++ a.since) ns (a.led u ns h.agrees))

    bytes_so : (u : List ℕ) (ns : List Mark) (h : AgreesBetween a.began.machine u ns) → (next [] u ns h).bytes ≡ a.since ++ bs
    bytes_so u ns h = cut_off (next [] u ns h).bytes (next [] u ns h).consumed

    piece_is : IsPiece ev.kind → bs ≡ after.piece
    piece_is i = let n = next [] a.before ms a.between in piece_so ev.kind i a.began.piece a.since bs n.bytes (bytes_so a.before ms a.between) n.piece_is

    -- it may be judged
    pub event_judged : (count taken : ℕ) → count ≡ new.open_count → taken ≡ new.taken → IsEventCome v ev bs count taken
    event_judged count taken counted all =
        event_come v b a.began after a.before (held []) (Some []) same_limits refl false (Some ev) (λ live u ns h. next [] u ns h) ev refl bs piece_is count taken counted all a.agrees

    module _ (start : HasStart (Unit {0}) asked a.since bs) where
      returned : (more : List ℕ) → a.began.refusal ≡ None → (u : List ℕ) (ns : List Mark) → AgreesBetween a.began.machine u ns → IsNextOf asked (Ok (Some ev)) (call a.began after (held more) (Some more) u ns)
      returned more live u ns h =
          reported_as asked ev (call a.began after (held more) (Some more) u ns) (next more u ns h)
          (λ y. kind_so ns ev.width ev.kind a.since bs both (subst (IsEventBytes ns ev.width ev.kind) (bytes_so u ns h) (next [] u ns h).are) some (a.kind y) (start y))

      module _ (w : OpenItems) (order : w.order ≡ v.order) (count taken : ℕ) (counted : count ≡ new.open_count) (all : taken ≡ new.taken) where
        -- nothing has a complaint
        pub event_taken : (u : Unit {0}) → ReturnsEvent v w ev bs count taken (Ok u) → IsStepResult (outs.Event ev) new w b t bs ms
        event_taken u ans =
            let g : GoesOn w b a.began after a.before (held []) (Some []) ev =
            event_admitted v b a.began after a.before (held []) (Some []) same_limits refl asked (Some ev) (returned []) ev refl bs piece_is count taken counted all a.agrees w b.keys refl (asked_so b.keys v) order a.keeps u ans in
            let it = given t ms (amid_represents m v b t ms a) in
            let here = there g.next.bytes (cut_off g.next.bytes g.next.consumed) in (
              it,
              record {
                began = after;
                before = t ++ bs;
                since = [];
                splits = sym (append-nil (t ++ bs));
                between = record { agrees = it.agrees; whole = it.ends };
                led = λ x ns h. subst (λ (y : List ℕ). Represents new y ns) (sym (append-nil x)) h;
                depth = refl;
                bytes = refl;
                agrees = subst (Agrees w b after) here g.agrees;
                keeps = subst (KeepsToKinds b (strict w.order)) here g.keeps;
                kind = λ y. tt;
              },
            )

        -- a complaint ends with it, or memory is refused
        pub event_withheld : (f : Refusal) → IsAgainstEvent v.order f.reason → ReturnsEvent v w ev bs count taken (Err f) → IsRefusedNow f new w b (t ++ bs) ms
        event_withheld f against ans =
            let it = given t ms (amid_represents m v b t ms a) in
            refused_now f w order (withheld ev.width ev.kind against (record { agrees = it.agrees; whole = it.ends })) (λ more. (event_refused v b a.began after a.before (held more) (Some more) same_limits refl asked (Some ev) (returned more) ev refl bs piece_is count taken counted all a.agrees w b.keys refl (asked_so b.keys v) order a.keeps f ans).1)

  -- ---- a refusal

  -- what is reported are all events before its offset
  ends_none : (f : Refusal) → f.read ≤ f.place + 1 → (p : List ℕ) → take f.place (t ++ bs) ≡ p → AreMarksWithin new.depth p ms → IsAtOnce v.order f new (t ++ bs) ms
  ends_none f near p e h = at_place near (subst (λ (x : List ℕ). AreMarksWithin new.depth x ms) (sym e) h)

  abbrev stopped : ItemEventsView
  stopped = record { machine = new; piece = []; refusal = None }

  -- no head is complete, and none may be
  module _ (f : Refusal) (taken : new.taken ≡ f.read) where
    at_machine : IsKeyReason f.reason → IsAtOnce v.order f new (t ++ bs) ms → ((more : List ℕ) → a.began.refusal ≡ None → (u : List ℕ) (ns : List Mark) → AgreesBetween a.began.machine u ns → IsNextOf asked (Err f) (call a.began stopped (held more) (Some more) u ns)) → IsRefusedNow f new v b (t ++ bs) ms
    at_machine reason at_once next =
        refused_now f v refl at_once (λ more. (stopped_there v b a.began stopped a.before (held more) (Some more) f asked b.keys same_limits reason taken limits.taken (asked_so b.keys v) refl a.agrees a.keeps (next more)).1)

    -- no event ends before a byte that is refused, and none at the limit
    form_at_once : IsTooLong f (call a.began stopped (held []) (Some []) a.before ms) ⊎ HasFormError f (call a.began stopped (held []) (Some []) a.before ms) → IsAtOnce v.order f new (t ++ bs) ms
    form_at_once (inl k) =
        let all = there k.bytes (cut_off k.bytes k.consumed) in
        let place : f.place ≡ new.bytes = ap (λ (y : Refusal). y.place) k.is in
        let read : f.read ≡ new.bytes = ap (λ (y : Refusal). y.read) k.is in
        ends_none f (omega (arith, place, read)) (t ++ bs) (take_all f.place (t ++ bs) (omega (arith, place, k.full, ap length all)))
        (subst (λ (x : List ℕ). AreMarksWithin new.depth x ms) all (marks_of_machine (before new (length (a.before ++ k.bytes))) (a.before ++ k.bytes) ms k.agrees))
    form_at_once (inr k) =
        let p = a.before ++ k.bytes in
        let all : p ++ k.byte ∷ [] ≡ t ++ bs = append_assoc a.before k.bytes (k.byte ∷ []) ∙ there (k.bytes ++ k.byte ∷ []) (cut_off (k.bytes ++ k.byte ∷ []) k.consumed) in
        let place : f.place ≡ length p = ap (λ (y : Refusal). y.place) k.is in
        let read : f.read ≡ length p + 1 = ap (λ (y : Refusal). y.read) k.is in
        ends_none f (omega (arith, place, read)) p (ap (take f.place) (sym all) ∙ take_at p (k.byte ∷ []) f.place (sym place)) (marks_of_machine (before new (length p)) p ms k.agrees)

    -- a byte is refused, or the limit is reached
    pub machine_refused : ¬ IsComplete m → m.taken + length bs ≤ new.bytes → ((u : List ℕ) (ns : List Mark) → Represents m u ns → IsRefused f new u bs ns) → IsStep (outs.Refused f) m new bs → IsMachineReason f.reason → HasStart (m.taken < f.place) asked a.since bs → IsRefusedNow f new v b (t ++ bs) ms
    machine_refused going fits refused step reason start =
        at_machine (inl (machine_event f.reason reason))
        (form_at_once (stopped-here f (call a.began stopped (held []) (Some []) a.before ms) (Some (bs ++ [])) m bs (has_read m v b t ms a (bs ++ []) a.before ms a.between) refl are going limits.depth fits (refused (a.before ++ a.since) ms (a.led a.before ms a.between.agrees)) step))
        (λ more live u ns h.
        let r = has_read m v b t ms a (bs ++ more) u ns h in
        let c = call a.began stopped (held more) (Some more) u ns in
        refused_as asked f c
        (still-expected (held more) (Some (bs ++ more)) a.began.machine m u ns h.agrees r a.depth going, inr (stopped-here f c (Some (bs ++ more)) m bs r refl are going limits.depth fits (refused (u ++ a.since) ns (a.led u ns h.agrees)) step))
        (λ y following first rest is. after_so m new v b t bs ms a f step start y u ns h more following first rest is))

    -- a key of another kind begins
    pub kind_refused : ¬ IsComplete m → asked ≡ true → a.since ≡ [] → (x : ℕ) → bs ≡ x ∷ [] → ¬ IsTrue (is_basic (x / 32)) → x ≢ 0xff → f ≡ refusal KeyKind m.taken new.taken → new.taken ≡ m.taken + 1
        → ((u : List ℕ) (ns : List Mark) → Represents m u ns → IsBeginning new.depth (u ++ bs)) → IsRefusedNow f new v b (t ++ bs) ms
    kind_refused going asks none x alone other item is one follows =
        let here = amid_represents m v b t ms a in
        let place : f.place ≡ m.taken = ap (λ (y : Refusal). y.place) is in
        let read : f.read ≡ new.taken = ap (λ (y : Refusal). y.read) is in
        at_machine (inr (ap (λ (y : Refusal). y.reason) is))
        (ends_none f (omega (arith, place, read, one)) t (take_at t bs f.place (sym (place ∙ here.taken))) (subst (λ (d : ℕ). AreMarksWithin d t ms) (sym limits.depth) (marks_of_machine m t ms here)))
        (λ more live u ns h.
        let s = a.led u ns h.agrees in
        let nothing : u ++ a.since ≡ u = ap (λ (y : List ℕ). u ++ y) none ∙ append-nil u in
        let size : m.taken ≡ length u = s.taken ∙ ap length nothing in
        let c = call a.began stopped (held more) (Some more) u ns in
        let r = has_read m v b t ms a (bs ++ more) u ns h in
        other_as asked f c asks (record {
          unfinished = still-expected (held more) (Some (bs ++ more)) a.began.machine m u ns h.agrees r a.depth going;
          byte = x;
          small = (subst AreBytes alone are).0;
          consumed = ap (λ (y : List ℕ). y ++ (bs ++ more)) none ∙ ap (λ (y : List ℕ). y ++ more) alone;
          other = other;
          item = item;
          follows = subst (IsBeginning new.depth) (ap (λ (y : List ℕ). y ++ bs) nothing ∙ ap (λ (y : List ℕ). u ++ y) alone) (follows (u ++ a.since) ns s);
          is = is ∙ ap (λ (n : ℕ). refusal KeyKind n new.taken) size ∙ ap (refusal KeyKind (length u)) (one ∙ ap (λ (n : ℕ). n + 1) size);
        }))

  -- ---- what the machine returns

  module _ (out : Out) (step : IsStep out m new bs) (given : (u : List ℕ) (ns : List Mark) → Represents m u ns → IsResult out new u bs ns) where
    -- bytes that were taken may follow
    pub follows_so : IsTaken out m.taken → length bs ≡ 1 → (u : List ℕ) (ns : List Mark) → Represents m u ns → IsBeginning new.depth (u ++ bs)
    follows_so taken one u ns h = go out step (given u ns h) taken
      where
        go : (out : Out) → IsStep out m new bs → IsResult out new u bs ns → IsTaken out m.taken → IsBeginning new.depth (u ++ bs)
        go outs.More s i k = i.beginning
        go (outs.Event e) s i k = i.agrees.beginning
        go outs.Done s i k = i.beginning
        go (outs.Refused f) s i k = elim s.1 [
          | inl x ↦
              let q = state_of m.inner.position m.inner.frames in
              let p = state_of new.inner.position new.inner.frames in
              subst (λ (d : ℕ). IsBeginning d (u ++ bs)) (sym limits.depth) (reached-begins m.depth (u ++ bs) p (ns ++ []) (bytes_join u bs h.are_bytes are) (run-on m.depth u bs q p ns [] h.inner.ran x.0.ran))
          | inr x ↦ absurd (omega (arith, k, ap (λ (y : Refusal). y.place) x.is, ap length x.splits, length-append x.prefix (x.byte ∷ []), one))
        ]

    -- what is no event
    pub no_event : ((e : Event) → out ≡ outs.Event e → ⊥) → m.taken + length bs ≤ new.bytes → IsDone out ↔ IsComplete m → (IsComplete m → (bs ≡ []) × (new ≡ m)) → IfRefused out (λ f. new.taken ≡ f.read) → IfRefused out (λ f. IsMachineReason f.reason) → HasStart (IsTaken out m.taken) asked a.since bs
        → IsStepResult out new v b t bs ms
    no_event none fits done stays taken reason start = go out none step given done taken reason start
      where
        go : (out : Out) → ((e : Event) → out ≡ outs.Event e → ⊥) → IsStep out m new bs → ((u : List ℕ) (ns : List Mark) → Represents m u ns → IsResult out new u bs ns) → IsDone out ↔ IsComplete m → IfRefused out (λ f. new.taken ≡ f.read) → IfRefused out (λ f. IsMachineReason f.reason)
            → HasStart (IsTaken out m.taken) asked a.since bs → IsStepResult out new v b t bs ms
        go outs.More none s i done taken reason start = record {
          began = a.began;
          before = a.before;
          since = a.since ++ bs;
          splits = ap (λ (x : List ℕ). x ++ bs) a.splits ∙ append_assoc a.before a.since bs;
          between = a.between;
          led = λ u ns h. subst (λ (x : List ℕ). Represents new x ns) (append_assoc u a.since bs) (i (u ++ a.since) ns (a.led u ns h));
          depth = limits.depth ∙ a.depth;
          bytes = limits.bytes ∙ a.bytes;
          agrees = a.agrees;
          keeps = a.keeps;
          kind = λ y. kind_goes_on m new v b t bs ms a s.0 start y;
        }
        go (outs.Event e) none s i done taken reason start = absurd (none e refl)
        go outs.Done none s i done taken reason start =
            let over = done.0 tt in
            let it = stays over in
            (it.0, subst IsComplete (sym it.1) over, subst (λ (x : MachineView). IsAmid x v b t ms) (sym it.1) a)
        go (outs.Refused f) none s i done taken reason start = machine_refused f taken (λ c. done.1 c) fits i s reason start
