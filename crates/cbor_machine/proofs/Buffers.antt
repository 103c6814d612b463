-- The buffer into which the bytes of an event were read.
use Rattle.std.proofs.Common.{◌≡◌, ℕ, Bool, true, false, true≢false, inl, inr, List, take, refl, sym, ap, subst, ◌∙◌, Option, Some, None, Result, Ok, Err}
use Rattle.cbor_head.specs.declared.event.EventKind.TheVariants as kinds
use Rattle.cbor_head.specs.declared.{reason.Refusal.Refusal, event.Event.Event, event.EventKind.EventKind}
use Rattle.theory_automaton.specs.{Trace.Mark, Pieces.piece_by, Pieces.kind_size}
use Rattle.cbor_machine.specs.NextEvent.{ItemEventsView, Call, machine_call, call, IsExpected, IsNextEvent, IsCut, IsTooLong, HasFormError, IsNext}
use Rattle.cbor_machine.specs.{inner.Machine.IsShown, MachineView.MachineView, Calls.piece_after, Calls.piece_size}
use Rattle.cbor_machine.proofs.Positions.{no-payload-done}

head-kept : (b : Bool) (kind : EventKind) (kept buffer : List ℕ) → b ≡ false → IsExpected b kind → piece_by kind kept buffer ≡ kept
head-kept true kind kept buffer p d = absurd (true≢false p)
head-kept false (kinds.Piece n) kept buffer p d = absurd d
head-kept false kind kept buffer p d = refl

payload-kept : (b : Bool) (kind : EventKind) (kept buffer : List ℕ) → b ≡ true → IsExpected b kind → piece_by kind kept buffer ≡ take (kind_size kind) buffer
payload-kept false kind kept buffer p d = absurd (true≢false (sym p))
payload-kept true (kinds.Piece n) kept buffer p d = refl
payload-kept true kind kept buffer p d = absurd d

-- a refusal does not depend on the piece
cut-as : (f : Refusal) (c : Call) (piece : List ℕ) → IsCut f c → IsCut f (record c { new_piece = piece })
cut-as f c piece h = record {
  bytes = h.bytes;
  consumed = h.consumed;
  reason = h.reason;
  is = h.is;
  verdict = h.verdict;
  short = h.short;
  agrees = h.agrees;
  unfinished = h.unfinished;
}

too_long-as : (f : Refusal) (c : Call) (piece : List ℕ) → IsTooLong f c → IsTooLong f (record c { new_piece = piece })
too_long-as f c piece h = record {
  bytes = h.bytes;
  consumed = h.consumed;
  is = h.is;
  full = h.full;
  verdict = h.verdict;
  agrees = h.agrees;
  unfinished = h.unfinished;
}

form_error-as : (f : Refusal) (c : Call) (piece : List ℕ) → HasFormError f c → HasFormError f (record c { new_piece = piece })
form_error-as f c piece h = record {
  bytes = h.bytes;
  byte = h.byte;
  consumed = h.consumed;
  is = h.is;
  cannot_follow = h.cannot_follow;
  verdict = h.verdict;
  agrees = h.agrees;
  unfinished = h.unfinished;
}

refusal-as : (f : Refusal) (c : Call) (piece : List ℕ) → IsNext (Err f) c → IsNext (Err f) (record c { new_piece = piece })
refusal-as f c piece (u, inl h) = (u, inl (cut-as f c piece h))
refusal-as f c piece (u, inr (inl h)) = (u, inr (inl (too_long-as f c piece h)))
refusal-as f c piece (u, inr (inr h)) = (u, inr (inr (form_error-as f c piece h)))

-- as in the view of the events
pub refused-call : (f : Refusal) (from same to : ItemEventsView) (held left : Option (List ℕ)) (piece t : List ℕ) (ms : List Mark) → from ≡ same
    → IsNext (Err f) (machine_call from.machine to.machine held left from.piece piece t ms) → IsNext (Err f) (call same to held left t ms)
refused-call f from same to held left piece t ms e h = subst (λ (v : ItemEventsView). IsNext (Err f) (call v to held left t ms)) e (refusal-as f (machine_call from.machine to.machine held left from.piece piece t ms) to.piece h)

pub head-outcome : (r : Result (Option Event) Refusal) (from to : Option (List ℕ)) (old new : MachineView) (kept buffer t : List ℕ) (ms : List Mark) → old.in_payload ≡ false
    → IsNext r (machine_call old new from to kept (piece_after r kept buffer) t ms) → IsNext r (machine_call old new from to kept kept t ms)
head-outcome (Ok (Some e)) from to old new kept buffer t ms p h = subst (λ x. IsNextEvent e (machine_call old new from to kept x t ms)) (head-kept old.in_payload e.kind kept buffer p h.expected) h
head-outcome (Ok None) from to old new kept buffer t ms p h = h
head-outcome (Err f) from to old new kept buffer t ms p h = h

pub payload-outcome : (r : Result (Option Event) Refusal) (from to : Option (List ℕ)) (old new : MachineView) (kept buffer t : List ℕ) (ms : List Mark) (held : ℕ) → IsShown old → old.in_payload ≡ true → held ≡ piece_size r
    → IsNext r (machine_call old new from to kept (piece_after r kept buffer) t ms) → IsNext r (machine_call old new from to kept (take held buffer) t ms)
payload-outcome (Ok (Some e)) from to old new kept buffer t ms held shown p size h =
    subst (λ x. IsNextEvent e (machine_call old new from to kept x t ms)) (payload-kept old.in_payload e.kind kept buffer p h.expected ∙ ap (λ n. take n buffer) (sym size)) h
payload-outcome (Ok None) from to old new kept buffer t ms held shown p size h =
    absurd (no-payload-done old.inner.position (sym shown.in_payload ∙ p) (sym shown.complete ∙ h.complete.0))
payload-outcome (Err f) from to old new kept buffer t ms held shown p size h = refusal-as f _ (take held buffer) h
