-- The bytes expected after bytes that reported nothing.
use Rattle.std.proofs.Common.{◌≡◌, ◌<◌, ◌-◌, ℕ, List, [], None, Option, Some, arith, min, refl, subst, sym, take}
use Rattle.cbor_head.specs.declared.reason.Refusal.{Refusal}
use Rattle.theory_automaton.specs.Automaton.{State, reached, run}
use Rattle.cbor_machine.specs.State.{state_of, wanted_at, IsFit, IsSettled}
use Rattle.cbor_machine.specs.declared.{frame.Frame.Frame, position.Position.Position, position.Position.TheVariants.Done}
use Rattle.cbor_machine.specs.Machine.{wanted_within}

-- anywhere but after the item
pub wants-within : (position : Position) → (position ≡ Done → ⊥) → 0 < wanted_at position
wants-within Done h = absurd (h refl)
wants-within position h = omega arith

same-state : (q t : State) → reached q [] ≡ reached t [] → q ≡ t
same-state q t e = cc

done-state : (position : Position) (fs : List Frame) → state_of position fs ≡ state_of Done [] → position ≡ Done
done-state Done fs e = refl
done-state position fs e = cc

-- bytes that report nothing do not lead past the item
pub goes-within : (d : ℕ) (old new : Position) (from to : List Frame) (used : ℕ) (bs : List ℕ) → (old ≡ Done → ⊥) → IsFit d to new
    → (IsSettled to new → (used ≡ 0) × IsSettled from old) → run d (state_of old from) (take used bs) ≡ reached (state_of new to) [] → new ≡ Done → ⊥
goes-within d old new from to used bs begun fit settles ran ended =
    let settled : IsSettled to new = subst (λ (p : Position). IsSettled to p) (sym ended) (subst (λ (p : Position). IsFit d to p) ended fit) in
    let still : reached (state_of old from) [] ≡ reached (state_of new to) [] = subst (λ (n : ℕ). run d (state_of old from) (take n bs) ≡ reached (state_of new to) []) (settles settled).0 ran in
    begun (done-state old from (subst (λ (p : Position). state_of old from ≡ state_of p to) ended (same-state _ _ still)))

-- the bytes expected by a machine that refused nothing and is below its limit
pub wants-more : (r : Option Refusal) (bytes taken : ℕ) (position : Position) → r ≡ None → taken < bytes → (position ≡ Done → ⊥) → 0 < wanted_within r (min (bytes - taken) (wanted_at position))
wants-more r bytes taken position live below within =
    let some = wants-within position within in
    subst (λ (o : Option Refusal). 0 < wanted_within o (min (bytes - taken) (wanted_at position))) (sym live) (omega arith)

pub nothing-refused : (r : Option Refusal) → ((f : Refusal) → r ≡ Some f → ⊥) → r ≡ None
nothing-refused None h = refl
nothing-refused (Some f) h = absurd (h f refl)
