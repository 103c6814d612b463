-- A machine before an item's first byte.
use Rattle.std.proofs.Common.{◌≡◌, List, length, [], None, refl, ap, sym, arith}
use Rattle.cbor_head.specs.Prelude.{Bounds}
use Rattle.theory_automaton.specs.Automaton.{at_item, reached}
use Rattle.cbor_machine.specs.declared.position.Position.TheVariants as positions
use Rattle.cbor_machine.{specs.State.frames_of, specs.declared.frame.Frame.Frame, specs.Machine.Represents, proofs.MachineStates.meant}
use Rattle.cbor_machine.specs.contracts.machine.Machine.{the_view}

pub starts : (limits : Bounds) (frames : List Frame) → frames ≡ [] → Represents (the_view (record { limits = limits; taken = 0; reported = 0; position = positions.Item; container_stack = frames; refusal = None })) [] []
starts limits frames empty =
    let none : length frames ≡ 0 = ap length empty in
    meant _ [] [] tt (ap (λ fs. reached (at_item (frames_of fs)) []) (sym empty)) (record { shown = record { open_count = refl; expected = refl; item_expected = refl; in_payload = refl; complete = refl }; empty = λ e. empty }) (omega (arith, none)) refl (omega arith) refl refl
