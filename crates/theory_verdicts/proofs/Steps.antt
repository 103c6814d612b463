-- From one event to the next: which it can be, its bytes, and where it leads.
use Rattle.std.proofs.Common.{◌≡◌, ℕ, zero, ◌+◌, ◌-◌, ◌<◌, ◌⊎◌, Bool, Option, Some, None, List, [], ◌∷◌, ◌++◌, length, refl, sym, ap, ◌∙◌, subst, inl, inr, arith, append_assoc, append-nil, length-append, Ok}
use Rattle.std.specs.Io.KnownBytes.{Consumes}
use Rattle.cbor_head.specs.Prelude.{Bounds, bounds, Rules, form, Complaint, complaint, IsBeginning, refused, IsVerdict}
use Rattle.cbor_head.specs.declared.reason.Reason.TheVariants as reasons
use Rattle.cbor_head.specs.declared.event.EventKind.TheVariants as kinds
use Rattle.cbor_head.specs.declared.{width.Width.TheVariants.Indefinite, reason.Reason.Reason, reason.Refusal.Refusal, event.Event.Event}
use Rattle.cbor_head.specs.declared.event.EventKind.{EventKind}
use Rattle.theory_values.proofs.{KindsUnasked.form_beside, ByteLists.bytes_back}
use Rattle.theory_automaton.specs.Trace.{Mark, a_head, a_chunk, a_byte, a_break}
use Rattle.theory_automaton.specs.Automaton.{State, start, run, reached}
use Rattle.theory_automaton.specs.Marks.{mark_of, marks_of, times}
use Rattle.theory_automaton.proofs.{Runs.once-marks, Taking.IsClear, Taking.mark-taken}
use Rattle.cbor_machine.specs.declared.frame.Frame as frames
use Rattle.cbor_machine.specs.declared.position.Position.TheVariants as positions
use Rattle.cbor_machine.specs.Machine.{KeepsLimits, Represents, before}
use Rattle.cbor_machine.specs.NextEvent as item_events
use Rattle.cbor_machine.specs.NextEvent.{ItemEventsView, AgreesBetween, IsNextEvent, IsCut, IsTooLong, HasFormError, IsNext, call}
use Rattle.cbor_machine.specs.{State.state_of, State.is_in_payload, declared.position.Position.Position, MachineView.MachineView}
use Rattle.cbor_machine.proofs.{Positions.position-done, NextEvents.whole-clear, NextEvents.run-rest}
use Rattle.theory_verdicts.specs.Place.{Place, at_item, in_payload, in_chunks, done, IsTaking}
use Rattle.theory_verdicts.specs.Reading.{state_at, IsAt, IsReached, OfMark, IsHeadExpected, IsNextHead, IsCutHead, IsFault, IsFormRefusal}
use Rattle.theory_verdicts.proofs.Places.{place_of, state-back, one-place, clear-at, taking-at}

-- what has become of the limits
pub record SameLimits (old new : MachineView) : Type 0 where
  pub depth : new.depth ≡ old.depth
  pub bytes : new.bytes ≡ old.bytes

-- ---- the position of the events

pub at-run : (b : Bounds) (e : ItemEventsView) (t : List ℕ) (q : Place) → (a : IsAt b e t q) → run b.depth start t ≡ reached (state_at q) a.marks
at-run b e t q a = ap (λ (d : ℕ). run d start t) (sym a.depth) ∙ a.agrees.agrees.inner.ran ∙ ap (λ (u : State). reached u a.marks) a.state

-- the same bytes lead to one position
pub same-place : (b : Bounds) (e new : ItemEventsView) (t : List ℕ) (p q : Place) → IsAt b e t p → IsAt b new t q → p ≡ q
same-place b e new t p q h k = one-place p q (cc (sym (at-run b e t p h) ∙ at-run b new t q k))

pub same-marks : (m : MachineView) (t : List ℕ) (ms ns : List Mark) → AgreesBetween m t ms → AgreesBetween m t ns → ms ≡ ns
same-marks m t ms ns h k =
    let e : reached (state_of m.inner.position m.inner.frames) ms ≡ reached (state_of m.inner.position m.inner.frames) ns = sym h.agrees.inner.ran ∙ k.agrees.inner.ran in
    cc e

pub agrees-reached : (b : Bounds) (m : MachineView) (t : List ℕ) (ms : List Mark) → m.depth ≡ b.depth → m.bytes ≡ b.bytes → Represents m t ms → IsReached b t
agrees-reached b m t ms e f s = record {
  begins = subst (λ (d : ℕ). IsBeginning d t) e s.beginning;
  within = omega (arith, s.taken, s.limited, f);
}

pub at-reached : (b : Bounds) (e : ItemEventsView) (t : List ℕ) (q : Place) → IsAt b e t q → IsReached b t
at-reached b e t q a = agrees-reached b e.machine t a.marks a.depth a.bytes a.agrees.agrees

pub reached-as : (b : Bounds) (all whole : List ℕ) → all ≡ whole → IsReached b all → IsReached b whole
reached-as b all whole e h = subst (IsReached b) e h

-- where the next event leads
next-clear : (new : MachineView) (u : List ℕ) (ms : List Mark) → AgreesBetween new u ms → IsClear (state_of new.inner.position new.inner.frames)
next-clear new u ms s = whole-clear new.depth u (state_of new.inner.position new.inner.frames) ms s.agrees.inner.ran s.whole

abbrev pub place_in : ItemEventsView → Place
place_in e = place_of (state_of e.machine.inner.position e.machine.inner.frames)

pub next-at : (b : Bounds) (old new : ItemEventsView) (t u : List ℕ) (q : Place) (ms : List Mark) → IsAt b old t q → SameLimits old.machine new.machine → new.refusal ≡ None → AgreesBetween new.machine u ms → IsAt b new u (place_in new)
next-at b old new t u q ms a same live s = record {
  live = live;
  limits = a.limits;
  depth = same.depth ∙ a.depth;
  bytes = same.bytes ∙ a.bytes;
  marks = ms;
  agrees = s;
  state = sym (state-back (state_of new.machine.inner.position new.machine.inner.frames) (next-clear new.machine u ms s));
}

-- what is left falls
pub farther : (b : Bounds) (e new : ItemEventsView) (t u : List ℕ) (q p : Place) → IsAt b e t q → IsAt b new u p → length t < length u
    → new.machine.bytes - new.machine.taken < e.machine.bytes - e.machine.taken
farther b e new t u q p a z h =
    omega (arith, a.agrees.agrees.taken, z.agrees.agrees.taken, z.agrees.agrees.limited, h, a.bytes, z.bytes)

-- what a machine ran since
pub since : (b : Bounds) (old : ItemEventsView) (new : MachineView) (t bs : List ℕ) (q : Place) (ns : List Mark) → (a : IsAt b old t q) → new.depth ≡ b.depth
    → run new.depth start (t ++ bs) ≡ reached (state_of new.inner.position new.inner.frames) (a.marks ++ ns) → run b.depth (state_at q) bs ≡ reached (state_of new.inner.position new.inner.frames) ns
since b old new t bs q ns a deep ran =
    run-rest b.depth t bs (state_at q) (state_of new.inner.position new.inner.frames) a.marks ns (at-run b old t q a) (ap (λ (d : ℕ). run d start (t ++ bs)) (sym deep) ∙ ran)

-- ---- a head

-- a head's event represents one mark
once : (position : Position) (fs : List frames.Frame) (q : Place) (kind : EventKind) → state_of position fs ≡ state_at q → IsHeadExpected q → item_events.IsExpected (is_in_payload position) kind → times kind ≡ 1
once (positions.Payload chunk type left) fs (in_payload c m n gs) kind e h d = absurd h
once (positions.Payload chunk type left) fs done kind e h d = absurd h
once (positions.Payload chunk type left) fs _ kind e h d = absurd (cc e)
once _ fs q (kinds.Piece n) e h d = absurd d
once _ fs q _ e h d = refl

-- which event is expected, by the inner state
pub expected-by : (b : Bounds) (e : ItemEventsView) (t : List ℕ) (q : Place) (kind : EventKind) → IsAt b e t q → item_events.IsExpected e.machine.in_payload kind → item_events.IsExpected (is_in_payload e.machine.inner.position) kind
expected-by b e t q kind a d = subst (λ (x : Bool). item_events.IsExpected x kind) a.agrees.agrees.inner.shown.in_payload d

-- a head's one mark
pub head-taken : (b : Bounds) (old new : ItemEventsView) (t : List ℕ) (q : Place) (ev : Event) (from to : Option (List ℕ)) → IsHeadExpected q → (a : IsAt b old t q)
    → (n : IsNextEvent ev (call old new from to t a.marks)) → SameLimits old.machine new.machine
    → IsTaking b.depth q (mark_of ev.width ev.kind) n.bytes (place_in new)
head-taken b old new t q ev from to expected a n same =
    let one = once-marks ev.width ev.kind (once old.machine.inner.position old.machine.inner.frames q ev.kind a.state expected (expected-by b old t q ev.kind a n.expected)) in
    let u = state_of new.machine.inner.position new.machine.inner.frames in
    let ran = since b old new.machine t n.bytes q (marks_of ev.width ev.kind) a (same.depth ∙ a.depth) n.agrees.agrees.inner.ran in
    taking-at b.depth q (mark_of ev.width ev.kind) n.bytes u (
    mark-taken b.depth (state_at q) u n.bytes (mark_of ev.width ev.kind) (clear-at q) (bytes_back t n.bytes n.agrees.agrees.are_bytes) (ran ∙ ap (λ (ms : List Mark). reached u ms) one)
    (next-clear new.machine (t ++ n.bytes) (a.marks ++ marks_of ev.width ev.kind) n.agrees)
    )

-- ---- the head's complaint

pub head-size : (d : ℕ) (q next : Place) (m : Mark) (bs : List ℕ) (r : Rules) (at : ℕ) (reason : Reason) → IsTaking d q m bs next → IsFault r m reason → OfMark r at q m (complaint (at + length bs) at reason)
head-size d (at_item fs) next (a_head m Indefinite n) bs r at reason h f = (f.0, ap (λ (x : Reason). complaint (at + length bs) at x) f.1 ∙ ap (λ (xs : List ℕ). complaint (at + length xs) at reasons.Indefinite) h.1)
head-size d (at_item fs) next (a_head m w n) bs r at reason h f = (f.0, f.1.0, ap (λ (x : Reason). complaint (at + length bs) at x) f.1.1 ∙ ap (λ (xs : List ℕ). complaint (at + length xs) at reasons.NotShortest) h.0)
head-size d (in_chunks k fs) next (a_chunk Indefinite n) bs r at reason h f = absurd h.1
head-size d (in_chunks k fs) next (a_chunk w n) bs r at reason h f = (f.0, f.1.0, ap (λ (x : Reason). complaint (at + length bs) at x) f.1.1 ∙ ap (λ (xs : List ℕ). complaint (at + length xs) at reasons.NotShortest) h.0)
head-size d q next a_byte bs r at reason h f = absurd f.1
head-size d q next a_break bs r at reason h f = absurd f.1
head-size d (in_payload c k zero fs) next _ bs r at reason h f = absurd h
head-size d _ next _ bs r at reason h f = absurd h

pub fault_of : (q : Place) (m : Mark) (r : Rules) (at : ℕ) (c : Complaint) → OfMark r at q m c → (reason : Reason) × IsFault r m reason
fault_of (at_item fs) (a_head m Indefinite n) r at c h = (reasons.Indefinite, (h.0, refl))
fault_of (at_item fs) (a_head m w n) r at c h = (reasons.NotShortest, (h.0, (h.1, refl)))
fault_of (in_chunks k fs) (a_chunk Indefinite n) r at c h = (reasons.Indefinite, (h.0, refl))
fault_of (in_chunks k fs) (a_chunk w n) r at c h = (reasons.NotShortest, (h.0, (h.1, refl)))
fault_of _ _ _ at c h = absurd h

-- ---- as the reader meets them

pub next-head : (r : Rules) (b : Bounds) (old new : ItemEventsView) (t : List ℕ) (q : Place) (ev : Event) (from to : Option (List ℕ)) → IsHeadExpected q → (a : IsAt b old t q)
    → IsNextEvent ev (call old new from to t a.marks) → SameLimits old.machine new.machine → new.refusal ≡ None
    → ((reason : Reason) → IsFault r (mark_of ev.width ev.kind) reason → ⊥) → IsNextHead r b q t ev from to new
next-head r b old new t q ev from to expected a n same live fine = record {
  bytes = n.bytes;
  consumed = n.consumed;
  place = n.place;
  next = place_in new;
  taking = head-taken b old new t q ev from to expected a n same;
  clean = λ c h. let f = fault_of q (mark_of ev.width ev.kind) r (length t) c h in fine f.0 f.1;
  proper = n.are.0;
  at = next-at b old new t (t ++ n.bytes) q (a.marks ++ marks_of ev.width ev.kind) a same live n.agrees;
}

-- ---- a refusal

-- what was taken, and what of it reported nothing
pub record Stops (b : Bounds) (q : Place) (t : List ℕ) (from to : Option (List ℕ)) (f : Refusal) : Type 0 where
  pub bytes : List ℕ
  pub consumed : Consumes from to bytes
  pub read : f.read ≡ length (t ++ bytes)
  pub cut : IsCutHead b q t bytes to f

verdict-within : (b : Bounds) (d n : ℕ) (input : List ℕ) (f : Refusal) → d ≡ b.depth → n ≡ b.bytes → IsVerdict (bounds d n) form input (refused f) → IsVerdict b form input (refused f)
verdict-within b d n input f e g v = form_beside (bounds d n) b input (refused f) e g v

module _ (b : Bounds) (old new : ItemEventsView) (t : List ℕ) (q : Place) (from to : Option (List ℕ)) (f : Refusal) (a : IsAt b old t q) (same : SameLimits old.machine new.machine) where
  abbrev now : MachineView
  now = new.machine

  deep : now.depth ≡ b.depth
  deep = same.depth ∙ a.depth

  most : now.bytes ≡ b.bytes
  most = same.bytes ∙ a.bytes

  -- where it reported nothing
  silent : (m : MachineView) (bs : List ℕ) → m.depth ≡ now.depth → Represents m (t ++ bs) a.marks → run b.depth (state_at q) bs ≡ reached (state_of m.inner.position m.inner.frames) []
  silent m bs e s = since b old m t bs q [] a (e ∙ deep) (s.inner.ran ∙ ap (λ (ms : List Mark). reached (state_of m.inner.position m.inner.frames) ms) (sym (append-nil a.marks)))

  cut-at : (m : MachineView) (p last bytes : List ℕ) → m.depth ≡ now.depth → Represents m (t ++ p) a.marks → bytes ≡ p ++ last → f.place ≡ length (t ++ p) → IsFormRefusal b (t ++ bytes) to f → IsCutHead b q t bytes to f
  cut-at m p last bytes e s splits place why = record {
    p = p;
    last = last;
    splits = splits;
    are_bytes = bytes_back t p s.are_bytes;
    begun = state_of m.inner.position m.inner.frames;
    ran = silent m p e s;
    place = place;
    refused = why;
  }

  pub stops-cut : IsCut f (call old new from to t a.marks) → Stops b q t from to f
  stops-cut c =
      let place : f.place ≡ length (t ++ c.bytes) = ap (λ (x : Refusal). x.place) c.is in
      let read : f.read ≡ length (t ++ c.bytes) = ap (λ (x : Refusal). x.read) c.is in
      record {
        bytes = c.bytes;
        consumed = c.consumed;
        read = read;
        cut = cut-at now c.bytes [] c.bytes refl c.agrees (sym (append-nil c.bytes)) place
            (inr (verdict-within b now.depth now.bytes (t ++ c.bytes) _ deep most c.verdict, place ∙ sym read, c.reason));
      }

  pub stops-full : IsTooLong f (call old new from to t a.marks) → Stops b q t from to f
  stops-full c =
      record {
        bytes = c.bytes;
        consumed = c.consumed;
        read = ap (λ (x : Refusal). x.read) c.is ∙ sym c.full;
        cut = cut-at (before now (length (t ++ c.bytes))) c.bytes [] c.bytes refl c.agrees (sym (append-nil c.bytes)) (ap (λ (x : Refusal). x.place) c.is ∙ sym c.full)
            (inl (λ more. verdict-within b now.depth now.bytes ((t ++ c.bytes) ++ more) f deep most (c.verdict more)));
      }

  pub stops-error : HasFormError f (call old new from to t a.marks) → Stops b q t from to f
  stops-error c =
      let all : t ++ (c.bytes ++ c.byte ∷ []) ≡ (t ++ c.bytes) ++ c.byte ∷ [] = sym (append_assoc t c.bytes (c.byte ∷ [])) in
      record {
        bytes = c.bytes ++ c.byte ∷ [];
        consumed = c.consumed;
        read = ap (λ (x : Refusal). x.read) c.is ∙ sym (ap length all ∙ length-append (t ++ c.bytes) (c.byte ∷ []));
        cut = cut-at (before now (length (t ++ c.bytes))) c.bytes (c.byte ∷ []) (c.bytes ++ c.byte ∷ []) refl c.agrees refl (ap (λ (x : Refusal). x.place) c.is)
            (inl (λ more. subst (λ (xs : List ℕ). IsVerdict b form (xs ++ more) (refused f)) (sym all) (verdict-within b now.depth now.bytes (((t ++ c.bytes) ++ c.byte ∷ []) ++ more) f deep most (c.verdict more))));
      }

  pub stops : IsCut f (call old new from to t a.marks) ⊎ IsTooLong f (call old new from to t a.marks) ⊎ HasFormError f (call old new from to t a.marks) → Stops b q t from to f
  stops h = elim h [ inl c ↦ stops-cut c | inr (inl c) ↦ stops-full c | inr (inr c) ↦ stops-error c ]

-- ---- as a reader meets them

pub limits-as : (old new : MachineView) → KeepsLimits old new → SameLimits old new
limits-as old new h = record { depth = h.depth; bytes = h.bytes }

module _ (b : Bounds) (old new : ItemEventsView) (t : List ℕ) (q : Place) (from to : Option (List ℕ)) (a : IsAt b old t q) where
  -- the result, as the item's event
  pub reported : (o : Option Event) (ev : Event) → o ≡ Some ev → IsNext (Ok o) (call old new from to t a.marks) → IsNextEvent ev (call old new from to t a.marks)
  reported o ev e n = subst (λ (x : Option Event). IsNext (Ok x) (call old new from to t a.marks)) e n

  -- an item that is open has not ended
  pub not-ended : (o : Option Event) → o ≡ None → (q ≡ done → ⊥) → IsNext (Ok o) (call old new from to t a.marks) → ⊥
  not-ended o e f n =
      let end = subst (λ (x : Option Event). IsNext (Ok x) (call old new from to t a.marks)) e n in
      f (one-place q done (sym a.state ∙ ap (λ (p : Position). state_of p old.machine.inner.frames) (position-done old.machine.inner.position (sym a.agrees.agrees.inner.shown.complete ∙ end.complete.0))))
