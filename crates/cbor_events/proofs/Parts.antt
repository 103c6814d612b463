-- What one read makes of a call for the next event.
use Rattle.std.proofs.Common.{◌≡◌, ℕ, zero, suc, ◌<◌, ◌≤◌, ◌⊎◌, inl, inr, append_assoc, List, [], ◌++◌, length, take, drop, refl, sym, subst, ◌∙◌, arith, append-nil, Option, Some, Result, Ok}
use Rattle.std.{specs.Io.KnownBytes.Consumes, proofs.KnownBytes.Consumes-nil}
use Rattle.cbor_head.specs.{declared.event.Event.Event, Prelude.AreBytes, declared.reason.Refusal.Refusal}
use Rattle.theory_automaton.specs.{Trace.Mark, Trace.total, Marks.marks_of, Bytes.IsEventBytes}
use Rattle.cbor_machine.specs.NextEvent.{AgreesBetween, IfReported, IsNext, machine_call}
use Rattle.cbor_machine.proofs.NextEvents.{event-here, read-on, complete-wants, wanted-space}
use Rattle.cbor_machine.specs.{MachineView.MachineView, Machine.Represents, Machine.wanted, Calls.HasRead, Calls.piece_after}
use Rattle.cbor_machine.proofs.NextRefusals.{still-expected, stopped-here}
use Rattle.cbor_events.specs.inner.Reads.{IsPartTaken, IsPartRead, HasTaken, HasStopped, IfGiven}
use Rattle.cbor_events.specs.declared.part.PartialEvent.TheVariants.{Reported, Open, Stopped}
use Rattle.cbor_events.specs.declared.part.PartialEvent.{PartialEvent}

-- the bytes that were read are those that the machine expected, and are at the start of the buffer
pub part-read : (p : PartialEvent) (from mid_from to : Option (List ℕ)) (was mid new : MachineView) (kept buffer t last : List ℕ) (ms : List Mark) → AgreesBetween was t ms → (r : HasRead from mid_from mid t ms)
    → mid.depth ≡ was.depth → new.depth ≡ mid.depth → new.bytes ≡ mid.bytes → Consumes mid_from to last → AreBytes last → 0 < length last → length last ≤ wanted mid → last ≡ take (length last) buffer
    → IsPartTaken p mid new (t ++ r.bytes) last ms → IsPartRead p was new from to kept buffer t ms
part-read (Reported e) from mid_from to was mid new kept buffer t last ms h r mid_depth depth bytes c b some fits here g =
    event-here e from mid_from to was mid new kept buffer t last ms h r mid_depth (depth ∙ mid_depth) c b some here g
part-read Open from mid_from to was mid new kept buffer t last ms h r mid_depth depth bytes c b some fits here g = read-on from mid_from to mid new t last ms r c g
part-read (Stopped f) from mid_from to was mid new kept buffer t last ms h r mid_depth depth bytes c b some fits here g =
    let going = complete-wants mid r.agrees.inner.shown (omega (arith, some, fits)) in (
      still-expected from mid_from was mid t ms h.agrees r mid_depth going,
      inr (stopped-here f (machine_call was new from to kept kept t ms) mid_from mid last r c b going depth (omega (arith, fits, wanted-space mid r.agrees.limited, bytes)) g.0 g.1),
    )

pub some-read : (n want : ℕ) → 0 < want → (n ≡ 0 → want ≡ 0) → 0 < n
some-read zero want some none = absurd (omega (arith, none refl, some))
some-read (suc n) want some none = omega arith

-- a call that has not read yet
pub none-read : (from : Option (List ℕ)) (m : MachineView) (t : List ℕ) (ms : List Mark) → Represents m t ms → HasRead from from m t ms
none-read from m t ms h = record { bytes = []; consumed = Consumes-nil from; agrees = subst (λ xs. Represents m xs ms) (sym (append-nil t)) h }

-- if no event is reported, the piece is unchanged
pub end-outcome : (r : Result (Option Event) Refusal) (from to : Option (List ℕ)) (was new : MachineView) (kept buffer t : List ℕ) (ms : List Mark) → IfReported r (λ e. ⊥)
    → IsNext r (machine_call was new from to kept kept t ms) → IsNext r (machine_call was new from to kept (piece_after r kept buffer) t ms)
end-outcome (Ok (Some e)) from to was new kept buffer t ms none h = absurd none
end-outcome _ from to was new kept buffer t ms none h = h

-- ---- what the machine consumed since any earlier state

-- bytes that reported nothing, and then others
pub given-on : (r : Result (Option Event) Refusal) (new : MachineView) (t bs : List ℕ) (ms : List Mark) → IfGiven r new (t ++ bs) ms → IfGiven r new t ms
given-on (Ok (Some e)) new t bs ms g =
    let same = append_assoc t bs g.0 in (
      bs ++ g.0,
      record {
        agrees = subst (λ (xs : List ℕ). Represents new xs (ms ++ marks_of e.width e.kind)) same g.1.agrees;
        place = g.1.place;
        ends = subst (λ (xs : List ℕ). total (ms ++ marks_of e.width e.kind) ≡ length xs) same g.1.ends;
        bytes = subst (λ (xs : List ℕ). IsEventBytes ms e.width e.kind (drop e.place xs)) same g.1.bytes;
      },
    )
given-on _ new t bs ms g = tt

pub reported-given : (e : Event) (old new : MachineView) (want : ℕ) (from to : Option (List ℕ)) (buffer t : List ℕ) (ms : List Mark) → HasTaken (Reported e) old new want from to buffer t ms ⊎ HasStopped (Reported e) old → IfGiven (Ok (Some e)) new t ms
reported-given e old new want from to buffer t ms (inl h) = (h.bytes, h.taken)
reported-given e old new want from to buffer t ms (inr h) = absurd h

pub silent-on : (old new : MachineView) (want : ℕ) (from to : Option (List ℕ)) (buffer t : List ℕ) (ms : List Mark) → HasTaken Open old new want from to buffer t ms ⊎ HasStopped Open old → (bs : List ℕ) × Represents new (t ++ bs) ms
silent-on old new want from to buffer t ms (inl h) = (h.bytes, h.taken)
silent-on old new want from to buffer t ms (inr h) = absurd h
