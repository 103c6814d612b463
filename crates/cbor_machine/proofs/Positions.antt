-- Positions between two bytes of an item: whether the item is done, and what is open.
use Rattle.std.proofs.Common.{◌≡◌, true, false, List, refl, sym, ◌∙◌, true≢false}
use Rattle.theory_automaton.specs.Automaton.{Frame, at_item}
use Rattle.cbor_machine.specs.State.{state_of, is_in_payload, is_done}
use Rattle.cbor_machine.specs.declared.frame.Frame as frames
use Rattle.cbor_machine.specs.declared.position.Position.{Position, TheVariants.Payload, TheVariants.Done}
use Rattle.cbor_machine.specs.{inner.Machine.IsShown, MachineView.MachineView}

pub position-done : (position : Position) → is_done position ≡ true → position ≡ Done
position-done Done h = refl
position-done _ h = absurd (true≢false (sym h))

pub not-done : (position : Position) → (position ≡ Done → ⊥) → is_done position ≡ false
not-done Done h = absurd (h refl)
not-done _ h = refl

pub no-payload-done : (position : Position) → is_in_payload position ≡ true → is_done position ≡ true → ⊥
no-payload-done (Payload chunk kind left) p d = true≢false (sym d)
no-payload-done _ p d = true≢false (sym p)

-- if an item is expected, no payload is open
pub no-payload : (m : MachineView) (fs : List Frame) → IsShown m → state_of m.inner.position m.inner.frames ≡ at_item fs → m.in_payload ≡ false
no-payload m fs shown e = shown.in_payload ∙ item m.inner.position m.inner.frames e
  where
    item : (position : Position) (fr : List frames.Frame) → state_of position fr ≡ at_item fs → is_in_payload position ≡ false
    item (Payload chunk kind left) fr e = absurd (cc e)
    item _ fr e = refl
