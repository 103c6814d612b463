-- What the annotated bytes written so far are, and what is returned.
use Rattle.std.proofs.Common.{◌≡◌, ℕ, ◌+◌, ◌-◌, ◌^◌, ◌<◌, ◌≤◌, ◌⊎◌, min, Bool, true, false, cond, codes, List, [], ◌∷◌, ◌++◌, length, take, drop, Option, Some, None, refl, sym, ap, ap₂, ◌∙◌, subst, inl, inr, arith, append_assoc, append-nil, length-append, length-drop, length-take-le}
use Rattle.std.specs.Io.KnownBytes.{Consumes, Appends, IsAtEnd}
use Rattle.std.proofs.KnownBytes.{Consumes-nil, Consumes-trans, Appends-nil, Appends-trans}
use Rattle.std.proofs.lemmas.List.{take-append-le, drop-append-le}
use Rattle.std.proofs.lemmas.List.{take_at}
use Rattle.std.specs.Option.{IfSome}
use Rattle.cbor_head.specs.Prelude.{Bounds, bounds, Spelling, spell, IsItem, form, refusal, accepted, refused, IsVerdict}
use Rattle.cbor_head.specs.declared.reason.Reason.TheVariants.{Read, Write, Truncated}
use Rattle.cbor_head.specs.declared.width.Width.TheVariants.{One, Two, Four, Eight}
use Rattle.cbor_head.specs.declared.event.EventKind.TheVariants.{Bytes, Text, Chunk, Piece, End}
use Rattle.cbor_head.specs.declared.{width.Width.Width, reason.Refusal.Refusal, event.Event.Event, event.EventKind.EventKind}
use Rattle.theory_values.proofs.KindsUnasked.{form_beside}
use Rattle.theory_automaton.specs.{Trace.Mark, Trace.total, Trace.more_bytes, Event.event, Event.joined, Event.joined_with, Event.piece_onto, Event.kind_onto, Event.event_size, Event.AreReported}
use Rattle.theory_automaton.{specs.Marks.marks_of, specs.Open.open_after, proofs.Rows.total-append, proofs.Joining.bytes-total}
use Rattle.cbor_machine.specs.NextEvent.{machine_call, AgreesBetween, IsNextEvent, IsEnd, IsCut, IsTooLong, HasFormError}
use Rattle.cbor_machine.proofs.Reported.{reported-none, reported-joined, next-more, next-all}
use Rattle.cbor_machine.{specs.Machine.Represents, specs.Machine.before, specs.MachineView.MachineView, proofs.Form.complete-verdict}
use Rattle.cbor_listing.specs.Annotated.{event_rows, event_rows_by, row_start, meaning, payload_text, ends_payload, level, level_in, context_by, context_after, context_after_events, no_string, annotated_event, annotated_events, annotated, IsAnnotation, IsAnnotationCut, IsAnnotated, IsUnannotated, of_verdict, of_reader, of_writer}
use Rattle.cbor_listing.specs.inner.Annotated.{IsShortHead, IsHeld, IsHeldAfter}
use Rattle.cbor_listing.{specs.declared.annotated_line.Context.Context, proofs.Listed.known, proofs.Listed.accepted-item}

-- ---- neighbouring pieces as one

one_of : (p q r : Bool) (xs : List ℕ) → (q ≡ true → (p ≡ true) × (r ≡ false)) → (q ≡ false → p ≡ r) → cond p xs [] ≡ cond q xs [] ++ cond r xs []
one_of p true r xs h k = let both = h refl in rw (both.0, both.1) (sym (append-nil xs))
one_of p false r xs h k = rw (k refl) refl

sooner : (left n m : ℕ) → ends_payload left n ≡ true → ends_payload left (n + m) ≡ true
sooner left n m h = grind arith

no_more : (left n m : ℕ) → ends_payload left n ≡ true → ends_payload (left - n) m ≡ false
no_more left n m h = grind arith

later : (left n m : ℕ) → ends_payload left n ≡ false → ends_payload left (n + m) ≡ ends_payload (left - n) m
later left n m h = grind arith

merged : (left n m : ℕ) (xs : List ℕ) → cond (ends_payload left (n + m)) xs [] ≡ cond (ends_payload left n) xs [] ++ cond (ends_payload (left - n) m) xs []
merged left n m xs = one_of (ends_payload left (n + m)) (ends_payload left n) (ends_payload (left - n) m) xs (λ h. (sooner left n m h, no_more left n m h)) (later left n m)

less : (c : Context) (n m : ℕ) → record c { left = c.left - (n + m) } ≡ record c { left = (c.left - n) - m }
less c n m = let e : c.left - (n + m) ≡ (c.left - n) - m = omega arith in ap (λ (k : ℕ). record c { left = k }) e

module _ (start : ℕ) (item : Spelling) where
  abbrev following : Context → List Event → List ℕ
  following c es = annotated_events start item c es

  before-following : (c : Context) (at n : ℕ) (w : Width) (place : ℕ) (width : Width) (k : EventKind) (es : List Event)
      → following c (joined_with (event at w (Piece n)) n k (event place width k) es) ≡ following c (event at w (Piece n) ∷ event place width k ∷ es)
  before-following c at n w place width (Piece m) es =
      let xs = payload_text (start + c.begun) c.level c.is_text (take c.size (drop c.begun (spell item))) in
      ap₂ (λ (ys : List ℕ) (d : Context). ys ++ following d es) (merged c.left n m xs) (less c n m)
      ∙ append_assoc (cond (ends_payload c.left n) xs []) (cond (ends_payload (c.left - n) m) xs []) (following (record c { left = (c.left - n) - m }) es)
  before-following c at n w place width _ es = refl

  piece-following : (c : Context) (at n : ℕ) (w : Width) (es : List Event) → following c (piece_onto (event at w (Piece n)) n es) ≡ following c (event at w (Piece n) ∷ es)
  piece-following c at n w [] = refl
  piece-following c at n w (f ∷ es) = before-following c at n w f.place f.width f.kind es

  kind-following : (c : Context) (at : ℕ) (w : Width) (k : EventKind) (es : List Event) → following c (kind_onto k (event at w k) es) ≡ following c (event at w k ∷ es)
  kind-following c at w (Piece n) es = piece-following c at n w es
  kind-following c at w _ es = refl

  joined-following : (c : Context) (es : List Event) → following c (joined es) ≡ following c es
  joined-following c [] = refl
  joined-following c (e ∷ es) =
      kind-following c e.place e.width e.kind (joined es)
      ∙ ap (λ (l : List ℕ). annotated_event start item c e ++ l) (joined-following (context_after (level_in item c e) e c) es)

-- ---- one event more

following-more : (start : ℕ) (item : Spelling) (c : Context) (es : List Event) (e : Event)
    → annotated_events start item c (es ++ e ∷ []) ≡ annotated_events start item c es ++ annotated_event start item (context_after_events item c es) e
following-more start item c [] e = append-nil (annotated_event start item c e)
following-more start item c (f ∷ es) e =
    let d = context_after (level_in item c f) f c in
    ap (λ l. annotated_event start item c f ++ l) (following-more start item d es e)
    ∙ sym (append_assoc (annotated_event start item c f) (annotated_events start item d es) (annotated_event start item (context_after_events item d es) e))

context-more : (item : Spelling) (c : Context) (es : List Event) (e : Event)
    → context_after_events item c (es ++ e ∷ []) ≡ context_after (level_in item (context_after_events item c es) e) e (context_after_events item c es)
context-more item c [] e = refl
context-more item c (f ∷ es) e = context-more item (context_after (level_in item c f) f c) es e

-- these are the lines of the events, and this is the context after them, in each item that starts with t
abbrev pub AreLines : ℕ → ℕ → List ℕ → List ℕ → List Event → Context → Type 0
AreLines start d t text es context = (item : Spelling) (rest : List ℕ) → IsItem d item (t ++ rest) → (text ≡ annotated start item es) × (context ≡ context_after_events item no_string es)

-- The lines of all events so far were written, and no byte after these events was consumed.
pub record HasAnnotated (start : ℕ) (m : MachineView) (input : List ℕ) (now old new : Option (List ℕ)) (written : ℕ) (context : Context) : Type 0 where
  pub t : List ℕ
  pub marks : List Mark
  pub reported : List Event
  pub text : List ℕ
  pub between : AgreesBetween m t marks
  pub are_reported : AreReported reported marks
  pub taken : Consumes (Some input) now t
  pub are_lines : AreLines start m.depth t text reported context
  pub held : IsHeld (length t) context
  pub annotated_so_far : Appends old new text
  pub count : written ≡ min (length text) (2 ^ 64 - 1)

pub none-annotated : (start : ℕ) (m : MachineView) (input : List ℕ) (old : Option (List ℕ)) → AgreesBetween m [] [] → HasAnnotated start m input (Some (drop m.taken input)) old old 0 no_string
none-annotated start m input old s = subst (λ (n : ℕ). HasAnnotated start m input (Some (drop n input)) old old 0 no_string) (sym s.agrees.taken) (record {
  t = [];
  marks = [];
  reported = [];
  text = [];
  between = s;
  are_reported = reported-none;
  taken = Consumes-nil (Some input);
  are_lines = λ item rest i. (refl, refl);
  held = omega arith;
  annotated_so_far = Appends-nil old;
  count = refl;
})

-- what is written for an event, and the context after it
abbrev pub level_now : MachineView → Context → Event → ℕ
level_now m context e = level m.open_count context e.kind

abbrev pub rows_now : ℕ → MachineView → Context → Event → List ℕ → List ℕ
rows_now start m context e input = event_rows start (level_now m context e) context e input

size-is : (m new : MachineView) (now to : Option (List ℕ)) (kept piece t : List ℕ) (ms : List Mark) (e : Event) → AgreesBetween m t ms
    → (next : IsNextEvent e (machine_call m new now to kept piece t ms)) → length next.bytes ≡ event_size e
size-is m new now to kept piece t ms e s next =
    let sum = total-append ms (marks_of e.width e.kind) in
    omega (arith, sum, s.whole, next.agrees.whole, length-append t next.bytes)

-- ---- the bytes of an event in the input and in the item

-- the first bytes do not depend on what follows
same-part : (all xs ys : List ℕ) (from size : ℕ) → from + size ≤ length all → take size (drop from (all ++ xs)) ≡ take size (drop from (all ++ ys))
same-part all xs ys from size h =
    let inside : size ≤ length (drop from all) = omega (arith, length-drop from all) in
    ap (take size) (drop-append-le from all xs (omega arith)) ∙ take-append-le size (drop from all) xs inside
    ∙ sym (ap (take size) (drop-append-le from all ys (omega arith)) ∙ take-append-le size (drop from all) ys inside)

ends-left : (left n : ℕ) → ends_payload left n ≡ true → left ≤ n
ends-left left n h = grind arith

cond-same : (b : Bool) (xs ys : List ℕ) → (b ≡ true → xs ≡ ys) → cond b xs [] ≡ cond b ys []
cond-same true xs ys h = h refl
cond-same false xs ys h = refl

-- the lines of an event whose bytes were consumed do not depend on what follows
same-rows : (k : EventKind) (start depth : ℕ) (context : Context) (e : Event) (all xs ys : List ℕ) → e.place + event_size e ≤ length all → IsHeldAfter k (length all) context
    → event_rows_by k start depth context e (all ++ xs) ≡ event_rows_by k start depth context e (all ++ ys)
same-rows (Piece n) start depth context e all xs ys within held =
    cond-same (ends_payload context.left n) _ _
    (λ yes. let few : context.left ≤ n = ends-left context.left n yes in
    ap (payload_text (start + context.begun) context.level context.is_text) (same-part all xs ys context.begun context.size (omega arith)))
same-rows k start depth context e all xs ys within held =
    ap (λ (bs : List ℕ). row_start (start + e.place) depth bs ++ meaning k ++ codes "\n") (same-part all xs ys e.place (event_size e) within)

-- a payload of which no byte is missing was consumed
held-following : (w : Width) (k : EventKind) (t bs : List ℕ) (depth at : ℕ) (c : Context) → length bs ≡ total (marks_of w k) → at ≡ length (t ++ bs) → IsHeld (length t) c
    → IsHeld (length (t ++ bs)) (context_by k depth at c)
held-following w (Bytes count) t bs depth at c size is held = omega arith
held-following w (Text count) t bs depth at c size is held = omega arith
held-following w (Chunk n) t bs depth at c size is held = omega arith
held-following w (Piece n) t bs depth at c size is held = let some = bytes-total n in omega (arith, length-append t bs, some)
held-following w End t bs depth at c size is held = omega (arith, length-append t bs)
held-following w _ t bs depth at c size is held = omega (arith, length-append t bs)

held-piece : (w : Width) (k : EventKind) (t bs : List ℕ) (c : Context) → length bs ≡ total (marks_of w k) → IsHeld (length t) c → IsHeldAfter k (length (t ++ bs)) c
held-piece w (Piece n) t bs c size held = let some = bytes-total n in omega (arith, length-append t bs, some)
held-piece w _ t bs c size held = tt

few-more : (w : Width) → more_bytes w ≤ 8
few-more One = omega arith
few-more Two = omega arith
few-more Four = omega arith
few-more Eight = omega arith
few-more _ = omega arith

short-head : (w : Width) (k : EventKind) (size : ℕ) → size ≡ total (marks_of w k) → IsShortHead k size
short-head w (Piece n) size is = tt
short-head w _ size is = let few = few-more w in omega (arith, few, is)

consumed-within : (input : List ℕ) (to : Option (List ℕ)) (bs : List ℕ) → Consumes (Some input) to bs → length bs ≤ length input
consumed-within input None bs h = absurd h
consumed-within input (Some ys) bs h = omega (arith, ap length h, length-append bs ys)

-- no byte after the input was consumed
pub taken-fits : (start : ℕ) (m : MachineView) (input : List ℕ) (now old new : Option (List ℕ)) (written : ℕ) (context : Context) → HasAnnotated start m input now old new written context → m.taken ≤ length input
taken-fits start m input now old new written context h = let within = consumed-within input now h.t h.taken in omega (arith, within, h.between.agrees.taken)

-- where the bytes of the event are in the input
pub record EventIsAt (start : ℕ) (new : MachineView) (input : List ℕ) (context : Context) (e : Event) (bytes : List ℕ) : Type 0 where
  pub within : new.taken ≤ length input
  pub size : new.taken ≡ e.place + event_size e
  pub short : IsShortHead e.kind (event_size e)
  pub held : IsHeldAfter e.kind new.taken context
  pub limited : new.taken ≤ new.bytes

pub event-agrees : (start : ℕ) (m new : MachineView) (input : List ℕ) (now to old mid : Option (List ℕ)) (written : ℕ) (context : Context) (kept piece : List ℕ) (e : Event)
    (h : HasAnnotated start m input now old mid written context) (next : IsNextEvent e (machine_call m new now to kept piece h.t h.marks)) → EventIsAt start new input context e next.bytes
event-agrees start m new input now to old mid written context kept piece e h next =
    let size : length next.bytes ≡ event_size e = size-is m new now to kept piece h.t h.marks e h.between next in
    let both : length (h.t ++ next.bytes) ≡ length h.t + length next.bytes = length-append h.t next.bytes in
    let taken : new.taken ≡ length (h.t ++ next.bytes) = next.agrees.agrees.taken in
    let place : e.place ≡ length h.t = next.place in
    let all : length (h.t ++ next.bytes) ≤ length input = consumed-within input to (h.t ++ next.bytes) (Consumes-trans (Some input) now to h.t next.bytes h.taken next.consumed) in
    record {
      within = omega (arith, taken, all);
      size = omega (arith, size, both, taken, place);
      short = short-head e.width e.kind (event_size e) refl;
      held = subst (λ (n : ℕ). IsHeldAfter e.kind n context) (sym taken) (held-piece e.width e.kind h.t next.bytes context size h.held);
      limited = next.agrees.agrees.limited;
    }

-- the lines with those of one more event, whose bytes are in the input
input-rows : (start depth : ℕ) (context : Context) (e : Event) (input all rest : List ℕ) (to : Option (List ℕ)) → Consumes (Some input) to all → e.place + event_size e ≤ length all
    → IsHeldAfter e.kind (length all) context → event_rows start depth context e input ≡ event_rows start depth context e (all ++ rest)
input-rows start depth context e input all rest None h within held = absurd h
input-rows start depth context e input all rest (Some ys) h within held =
    ap (event_rows start depth context e) h ∙ same-rows e.kind start depth context e all ys rest within held

rows-are : (start : ℕ) (m new : MachineView) (input : List ℕ) (now to old mid : Option (List ℕ)) (written : ℕ) (context : Context) (kept piece : List ℕ) (e : Event)
    (h : HasAnnotated start m input now old mid written context) (next : IsNextEvent e (machine_call m new now to kept piece h.t h.marks)) (item : Spelling) (rest : List ℕ)
    → IsItem m.depth item (h.t ++ (next.bytes ++ rest))
    → (level_now m context e ≡ level_in item context e) × (rows_now start m context e input ≡ annotated_event start item context e)
rows-are start m new input now to old mid written context kept piece e h next item rest i =
    let all = h.t ++ next.bytes in
    let agrees = event-agrees start m new input now to old mid written context kept piece e h next in
    let taken : new.taken ≡ length all = next.agrees.agrees.taken in
    let opened : m.open_count ≡ open_after e.place item = h.between.agrees.counted item (next.bytes ++ rest) i ∙ ap (λ (n : ℕ). open_after n item) (sym next.place) in
    let same : level_now m context e ≡ level_in item context e = ap (λ (n : ℕ). level n context e.kind) opened in
    let spelled : all ++ rest ≡ spell item = append_assoc h.t next.bytes rest ∙ sym i.bytes_are in (
      same,
      input-rows start (level_now m context e) context e input all rest to (Consumes-trans (Some input) now to h.t next.bytes h.taken next.consumed) (omega (arith, agrees.size, taken))
          (subst (λ (n : ℕ). IsHeldAfter e.kind n context) taken agrees.held)
          ∙ ap₂ (λ (n : ℕ) (bs : List ℕ). event_rows start n context e bs) same spelled,
    )

-- an item that starts with the bytes consumed up to the event
there : (m new : MachineView) (t bs : List ℕ) → new.depth ≡ m.depth → (item : Spelling) (rest : List ℕ) → IsItem new.depth item ((t ++ bs) ++ rest) → IsItem m.depth item (t ++ (bs ++ rest))
there m new t bs same item rest i = subst (IsItem m.depth item) (append_assoc t bs rest) (subst (λ (d : ℕ). IsItem d item ((t ++ bs) ++ rest)) same i)

lines-more : (start : ℕ) (m new : MachineView) (input : List ℕ) (now to old mid : Option (List ℕ)) (written : ℕ) (context : Context) (kept piece : List ℕ) (e : Event)
    (h : HasAnnotated start m input now old mid written context) (next : IsNextEvent e (machine_call m new now to kept piece h.t h.marks)) → new.depth ≡ m.depth
    → AreLines start new.depth (h.t ++ next.bytes) (h.text ++ rows_now start m context e input) (h.reported ++ e ∷ []) (context_after (level_now m context e) e context)
lines-more start m new input now to old mid written context kept piece e h next same item rest i =
    let before = there m new h.t next.bytes same item rest i in
    let so_far = h.are_lines item (next.bytes ++ rest) before in
    let rows = rows-are start m new input now to old mid written context kept piece e h next item rest before in (
      ap₂ (λ (xs ys : List ℕ). xs ++ ys) so_far.0 (rows.1 ∙ ap (λ (c : Context). annotated_event start item c e) so_far.1) ∙ sym (following-more start item no_string h.reported e),
      ap (λ (n : ℕ). context_after n e context) rows.0 ∙ ap (λ (c : Context). context_after (level_in item c e) e c) so_far.1 ∙ sym (context-more item no_string h.reported e),
    )

pub one-more : (start : ℕ) (m new : MachineView) (input : List ℕ) (now to old mid out : Option (List ℕ)) (written more : ℕ) (context : Context) (kept piece : List ℕ) (e : Event)
    (h : HasAnnotated start m input now old mid written context) (next : IsNextEvent e (machine_call m new now to kept piece h.t h.marks)) → new.depth ≡ m.depth
    → Appends mid out (rows_now start m context e input) → more ≡ min (written + length (rows_now start m context e input)) (2 ^ 64 - 1)
    → HasAnnotated start new input to old out more (context_after (level_now m context e) e context)
one-more start m new input now to old mid out written more context kept piece e h next same wrote sum =
    let rows = rows_now start m context e input in
    let agrees = event-agrees start m new input now to old mid written context kept piece e h next in
    record {
      t = h.t ++ next.bytes;
      marks = h.marks ++ marks_of e.width e.kind;
      reported = h.reported ++ e ∷ [];
      text = h.text ++ rows;
      between = next.agrees;
      are_reported = next-more (machine_call m new now to kept piece h.t h.marks) h.reported e h.are_reported h.between next;
      taken = Consumes-trans (Some input) now to h.t next.bytes h.taken next.consumed;
      are_lines = lines-more start m new input now to old mid written context kept piece e h next same;
      held = held-following e.width e.kind h.t next.bytes (level_now m context e) (e.place + event_size e) context (size-is m new now to kept piece h.t h.marks e h.between next)
          (sym agrees.size ∙ next.agrees.agrees.taken) h.held;
      annotated_so_far = Appends-trans old mid out h.text rows h.annotated_so_far wrote;
      count = omega (arith, length-append h.text rows, h.count, sum);
    }

-- ---- the item is complete

pub all-annotated : (start : ℕ) (m new : MachineView) (input : List ℕ) (now to old out : Option (List ℕ)) (written count : ℕ) (context : Context) (kept piece : List ℕ) (h : HasAnnotated start m input now old out written context)
    → IsEnd (machine_call m new now to kept piece h.t h.marks) → count ≡ new.taken → IfSome (Some input) (λ input. IsAnnotated start (bounds m.depth m.bytes) input count old out)
all-annotated start m new input now to old out written count context kept piece h end e =
    let whole = next-all (machine_call m new now to kept piece h.t h.marks) h.reported h.are_reported h.between end in
    let s = whole.0 in
    let item : IsItem m.depth s (h.t ++ []) = subst (IsItem m.depth s) (sym (append-nil h.t)) whole.1 in
    known (Some input) now h.t (λ input. IsAnnotated start (bounds m.depth m.bytes) input count old out) h.taken
    (λ rest k. let v = complete-verdict m h.t h.marks h.between.agrees end.complete rest in record {
      item = s;
      verdict = subst (λ (a : Spelling). IsVerdict (bounds m.depth m.bytes) form (h.t ++ rest) (accepted a)) (accepted-item (bounds m.depth m.bytes) h.t rest s whole.1 v.0 v.1) v.1;
      size = e ∙ end.agrees.agrees.taken ∙ sym (ap length whole.1.bytes_are);
      written = subst (Appends old out) ((h.are_lines s [] item).0 ∙ sym (joined-following start s no_string h.reported) ∙ ap (annotated start s) whole.2) h.annotated_so_far;
    })

pub taken-within : (start : ℕ) (m new : MachineView) (input : List ℕ) (now to old out : Option (List ℕ)) (written count : ℕ) (context : Context) (kept piece : List ℕ) (h : HasAnnotated start m input now old out written context)
    → IsEnd (machine_call m new now to kept piece h.t h.marks) → count ≡ new.taken → count ≤ length input
taken-within start m new input now to old out written count context kept piece h end e =
    let within = consumed-within input now h.t h.taken in
    let size : count ≡ length h.t = e ∙ end.agrees.agrees.taken in
    omega (arith, within, size)

-- ---- the item is refused

-- the lines of what was consumed, with the bytes after the last event
annotation-of : (start : ℕ) (m : MachineView) (input : List ℕ) (now old out : Option (List ℕ)) (written : ℕ) (context : Context) (h : HasAnnotated start m input now old out written context)
    (at : MachineView) (bs : List ℕ) → at.depth ≡ m.depth → Represents at (h.t ++ bs) h.marks → IsAnnotation start at.depth (h.t ++ bs) h.text
annotation-of start m input now old out written context h at bs same agrees = record {
  beginning = agrees.beginning;
  of_events = λ s rest i. (h.are_lines s (bs ++ rest) (there m at h.t bs same s rest i)).0 ∙ sym (joined-following start s no_string h.reported)
      ∙ ap (annotated start s) (reported-joined at (h.t ++ bs) h.marks h.reported agrees h.are_reported s rest i);
}

-- the first k bytes of an input are those consumed
prefix-annotated : (start d k : ℕ) (t rest out : List ℕ) → k ≡ length t → IsAnnotation start d t out → IsAnnotation start d (take k (t ++ rest)) out
prefix-annotated start d k t rest out e h = subst (λ (xs : List ℕ). IsAnnotation start d xs out) (sym (take_at t rest k (sym e))) h

cut-unannotated : (start : ℕ) (m new : MachineView) (input : List ℕ) (now to old out : Option (List ℕ)) (written : ℕ) (context : Context) (kept piece : List ℕ) (h : HasAnnotated start m input now old out written context) (f : Refusal)
    → new.depth ≡ m.depth → IsCut f (machine_call m new now to kept piece h.t h.marks) → IfSome (Some input) (λ input. IsUnannotated start (bounds new.depth new.bytes) input f old out)
cut-unannotated start m new input now to old out written context kept piece h f same i =
    let all = h.t ++ i.bytes in
    let size : f.read ≡ length all = ap (λ (r : Refusal). r.read) i.is in
    let place : f.place ≡ length all = ap (λ (r : Refusal). r.place) i.is in
    let annotation : IsAnnotation start new.depth all h.text = annotation-of start m input now old out written context h new i.bytes same i.agrees in
    known (Some input) to all (λ input. IsUnannotated start (bounds new.depth new.bytes) input f old out) (Consumes-trans (Some input) now to h.t i.bytes h.taken i.consumed)
    (λ rest k. elim i.reason [
      | inl failed ↦
          of_reader h.text
          (i.is ∙ ap (λ r. refusal r (length all) (length all)) failed ∙ ap (λ n. refusal Read n n) (sym size))
          (subst (λ (n : ℕ). IsVerdict (bounds new.depth new.bytes) form (take n (all ++ rest)) (refused (refusal Truncated n n))) (sym size)
          (subst (λ (xs : List ℕ). IsVerdict (bounds new.depth new.bytes) form xs (refused (refusal Truncated (length all) (length all)))) (sym (take_at all rest (length all) refl)) i.verdict))
          (prefix-annotated start new.depth f.read all rest h.text size annotation)
          h.annotated_so_far
      | inr ended ↦
          let empty : rest ≡ [] = subst IsAtEnd k ended.1 in
          let whole : all ++ rest ≡ all = ap (λ (xs : List ℕ). all ++ xs) empty ∙ append-nil all in
          let is : f ≡ refusal Truncated (length all) (length all) = i.is ∙ ap (λ r. refusal r (length all) (length all)) ended.0 in
          of_verdict h.text
          (subst (λ (xs : List ℕ). IsVerdict (bounds new.depth new.bytes) form xs (refused f)) (sym whole) (subst (λ (r : Refusal). IsVerdict (bounds new.depth new.bytes) form all (refused r)) (sym is) i.verdict))
          (prefix-annotated start new.depth f.place all rest h.text place annotation)
          h.annotated_so_far
    ])

long-unannotated : (start : ℕ) (m new : MachineView) (input : List ℕ) (now to old out : Option (List ℕ)) (written : ℕ) (context : Context) (kept piece : List ℕ) (h : HasAnnotated start m input now old out written context) (f : Refusal)
    → new.depth ≡ m.depth → IsTooLong f (machine_call m new now to kept piece h.t h.marks) → IfSome (Some input) (λ input. IsUnannotated start (bounds new.depth new.bytes) input f old out)
long-unannotated start m new input now to old out written context kept piece h f same i =
    let all = h.t ++ i.bytes in
    let place : f.place ≡ length all = ap (λ (r : Refusal). r.place) i.is ∙ sym i.full in
    known (Some input) to all (λ input. IsUnannotated start (bounds new.depth new.bytes) input f old out) (Consumes-trans (Some input) now to h.t i.bytes h.taken i.consumed)
    (λ rest k. of_verdict h.text (i.verdict rest)
    (prefix-annotated start new.depth f.place all rest h.text place (annotation-of start m input now old out written context h (before new (length all)) i.bytes same i.agrees)) h.annotated_so_far)

-- what was consumed, with the byte that is refused
broken-taken : (start : ℕ) (m new : MachineView) (input : List ℕ) (now to old out : Option (List ℕ)) (written : ℕ) (context : Context) (kept piece : List ℕ) (h : HasAnnotated start m input now old out written context) (f : Refusal)
    (i : HasFormError f (machine_call m new now to kept piece h.t h.marks)) → Consumes (Some input) to ((h.t ++ i.bytes) ++ i.byte ∷ [])
broken-taken start m new input now to old out written context kept piece h f i =
    subst (Consumes (Some input) to) (sym (append_assoc h.t i.bytes (i.byte ∷ []))) (Consumes-trans (Some input) now to h.t (i.bytes ++ i.byte ∷ []) h.taken i.consumed)

broken-unannotated : (start : ℕ) (m new : MachineView) (input : List ℕ) (now to old out : Option (List ℕ)) (written : ℕ) (context : Context) (kept piece : List ℕ) (h : HasAnnotated start m input now old out written context) (f : Refusal)
    → new.depth ≡ m.depth → HasFormError f (machine_call m new now to kept piece h.t h.marks) → IfSome (Some input) (λ input. IsUnannotated start (bounds new.depth new.bytes) input f old out)
broken-unannotated start m new input now to old out written context kept piece h f same i =
    let all = h.t ++ i.bytes in
    let place : f.place ≡ length all = ap (λ (r : Refusal). r.place) i.is in
    known (Some input) to (all ++ i.byte ∷ []) (λ input. IsUnannotated start (bounds new.depth new.bytes) input f old out) (broken-taken start m new input now to old out written context kept piece h f i)
    (λ rest k. of_verdict h.text (i.verdict rest)
    (subst (λ (xs : List ℕ). IsAnnotation start new.depth (take f.place xs) h.text) (sym (append_assoc all (i.byte ∷ []) rest))
    (prefix-annotated start new.depth f.place all (i.byte ∷ rest) h.text place (annotation-of start m input now old out written context h (before new (length all)) i.bytes same i.agrees))) h.annotated_so_far)

pub refused-unannotated : (start : ℕ) (m new : MachineView) (input : List ℕ) (now to old out : Option (List ℕ)) (written : ℕ) (context : Context) (kept piece : List ℕ) (h : HasAnnotated start m input now old out written context) (f : Refusal)
    → new.depth ≡ m.depth → IsCut f (machine_call m new now to kept piece h.t h.marks) ⊎ IsTooLong f (machine_call m new now to kept piece h.t h.marks) ⊎ HasFormError f (machine_call m new now to kept piece h.t h.marks)
    → IfSome (Some input) (λ input. IsUnannotated start (bounds new.depth new.bytes) input f old out)
refused-unannotated start m new input now to old out written context kept piece h f same (inl i) = cut-unannotated start m new input now to old out written context kept piece h f same i
refused-unannotated start m new input now to old out written context kept piece h f same (inr (inl i)) = long-unannotated start m new input now to old out written context kept piece h f same i
refused-unannotated start m new input now to old out written context kept piece h f same (inr (inr i)) = broken-unannotated start m new input now to old out written context kept piece h f same i

pub refused-within : (start : ℕ) (m new : MachineView) (input : List ℕ) (now to old out : Option (List ℕ)) (written : ℕ) (context : Context) (kept piece : List ℕ) (h : HasAnnotated start m input now old out written context) (f : Refusal)
    → IsCut f (machine_call m new now to kept piece h.t h.marks) ⊎ IsTooLong f (machine_call m new now to kept piece h.t h.marks) ⊎ HasFormError f (machine_call m new now to kept piece h.t h.marks) → f.read ≤ length input
refused-within start m new input now to old out written context kept piece h f (inl i) =
    let within = consumed-within input to (h.t ++ i.bytes) (Consumes-trans (Some input) now to h.t i.bytes h.taken i.consumed) in
    let size : f.read ≡ length (h.t ++ i.bytes) = ap (λ (r : Refusal). r.read) i.is in
    omega (arith, within, size)
refused-within start m new input now to old out written context kept piece h f (inr (inl i)) =
    let within = consumed-within input to (h.t ++ i.bytes) (Consumes-trans (Some input) now to h.t i.bytes h.taken i.consumed) in
    let size : f.read ≡ length (h.t ++ i.bytes) = ap (λ (r : Refusal). r.read) i.is ∙ sym i.full in
    omega (arith, within, size)
refused-within start m new input now to old out written context kept piece h f (inr (inr i)) =
    let within = consumed-within input to ((h.t ++ i.bytes) ++ i.byte ∷ []) (broken-taken start m new input now to old out written context kept piece h f i) in
    let size : f.read ≡ length (h.t ++ i.bytes) + 1 = ap (λ (r : Refusal). r.read) i.is in
    omega (arith, within, size, length-append (h.t ++ i.bytes) (i.byte ∷ []))

-- ---- the writer stopped

cuts-within : (start : ℕ) (m new : MachineView) (input : List ℕ) (now to old mid : Option (List ℕ)) (written : ℕ) (context : Context) (kept piece : List ℕ) (e : Event)
    (h : HasAnnotated start m input now old mid written context) (next : IsNextEvent e (machine_call m new now to kept piece h.t h.marks)) (count : ℕ) → new.depth ≡ m.depth
    → count < length (rows_now start m context e input) → IsAnnotationCut start new.depth (h.t ++ next.bytes) (h.text ++ take count (rows_now start m context e input))
cuts-within start m new input now to old mid written context kept piece e h next count same short =
    let agrees = event-agrees start m new input now to old mid written context kept piece e h next in
    let so_far = λ (item : Spelling) (rest : List ℕ) (i : IsItem new.depth item ((h.t ++ next.bytes) ++ rest)).
    h.are_lines item (next.bytes ++ rest) (there m new h.t next.bytes same item rest i) in
    let rows = λ (item : Spelling) (rest : List ℕ) (i : IsItem new.depth item ((h.t ++ next.bytes) ++ rest)).
    (rows-are start m new input now to old mid written context kept piece e h next item rest (there m new h.t next.bytes same item rest i)).1
    ∙ ap (λ (c : Context). annotated_event start item c e) (so_far item rest i).1 in
    record {
      beginning = next.agrees.agrees.beginning;
      earlier = h.reported;
      last = e;
      are = λ item rest i. reported-joined new (h.t ++ next.bytes) (h.marks ++ marks_of e.width e.kind) (h.reported ++ e ∷ []) next.agrees.agrees
          (next-more (machine_call m new now to kept piece h.t h.marks) h.reported e h.are_reported h.between next) item rest i;
      ends = sym agrees.size ∙ next.agrees.agrees.taken;
      part = count;
      of_events = λ item rest i. (
        subst (λ (l : List ℕ). count < length l) (rows item rest i) short,
        ap₂ (λ (xs ys : List ℕ). xs ++ take count ys) (so_far item rest i).0 (rows item rest i),
      );
    }

pub stopped-unannotated : (start : ℕ) (m new : MachineView) (input : List ℕ) (now to old mid out : Option (List ℕ)) (written count : ℕ) (context : Context) (kept piece : List ℕ) (e : Event)
    (h : HasAnnotated start m input now old mid written context) (f : Refusal) (next : IsNextEvent e (machine_call m new now to kept piece h.t h.marks)) → new.depth ≡ m.depth
    → count < length (rows_now start m context e input) → Appends mid out (take count (rows_now start m context e input)) → f ≡ refusal Write (min (written + count) (2 ^ 64 - 1)) new.taken
    → IsUnannotated start (bounds new.depth new.bytes) input f old out
stopped-unannotated start m new input now to old mid out written count context kept piece e h f next same short wrote is =
    let all = h.t ++ next.bytes in
    let rows = rows_now start m context e input in
    let text = h.text ++ take count rows in
    let read : f.read ≡ length all = ap (λ (r : Refusal). r.read) is ∙ next.agrees.agrees.taken in
    let fits : count ≤ length rows = omega arith in
    let size : length text ≡ length h.text + count = length-append h.text (take count rows) ∙ ap (λ (n : ℕ). length h.text + n) (length-take-le count rows fits) in
    let place : min (written + count) (2 ^ 64 - 1) ≡ min (length text) (2 ^ 64 - 1) = omega (arith, size, h.count) in
    let cut = cuts-within start m new input now to old mid written context kept piece e h next count same short in
    known (Some input) to all (λ (b : List ℕ). IsUnannotated start (bounds new.depth new.bytes) b f old out) (Consumes-trans (Some input) now to h.t next.bytes h.taken next.consumed)
    (λ rest k. of_writer text
    (is ∙ ap (λ n. refusal Write n new.taken) place ∙ ap (λ n. refusal Write (min (length text) (2 ^ 64 - 1)) n) (sym (ap (λ (r : Refusal). r.read) is)))
    (subst (λ (xs : List ℕ). IsAnnotationCut start new.depth xs text) (sym (take_at all rest f.read (sym read))) cut)
    (Appends-trans old mid out h.text (take count rows) h.annotated_so_far wrote))

-- ---- the limits

-- only the form matters, whatever kinds of keys are allowed
pub annotated-within : (start : ℕ) (limits : Bounds) (m : MachineView) (input : List ℕ) (old out : Option (List ℕ)) (count : ℕ) → m.depth ≡ limits.depth → m.bytes ≡ limits.bytes
    → IsAnnotated start (bounds m.depth m.bytes) input count old out → IsAnnotated start limits input count old out
annotated-within start limits m input old out count depth bytes h =
    record { item = h.item; verdict = form_beside (bounds m.depth m.bytes) limits input (accepted h.item) depth bytes h.verdict; size = h.size; written = h.written }

pub unannotated-within : (start : ℕ) (limits : Bounds) (m : MachineView) (input : List ℕ) (old out : Option (List ℕ)) (f : Refusal) → m.depth ≡ limits.depth → m.bytes ≡ limits.bytes
    → IsUnannotated start (bounds m.depth m.bytes) input f old out → IsUnannotated start limits input f old out
unannotated-within start limits m input old out f depth bytes (of_verdict text v l a) =
    of_verdict text (form_beside (bounds m.depth m.bytes) limits input (refused f) depth bytes v) (subst (λ (d : ℕ). IsAnnotation start d (take f.place input) text) depth l) a
unannotated-within start limits m input old out f depth bytes (of_reader text is v l a) =
    of_reader text is (form_beside (bounds m.depth m.bytes) limits (take f.read input) (refused (refusal Truncated f.read f.read)) depth bytes v)
    (subst (λ (d : ℕ). IsAnnotation start d (take f.read input) text) depth l) a
unannotated-within start limits m input old out f depth bytes (of_writer text is s a) =
    of_writer text is (subst (λ (d : ℕ). IsAnnotationCut start d (take f.read input) text) depth s) a
