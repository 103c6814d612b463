use Rattle.std.proofs.Common.{◌+◌, length, ap, refl, ◌∙◌, arith}
use Rattle.theory_automaton.specs.Automaton.{close}
use Rattle.cbor_machine.proofs.machine.Machine.take_item.Goals as goal
use Rattle.cbor_machine.{specs.MachineView.MachineView, specs.State.frames_of, proofs.WholeItems.item-agrees, proofs.MachineStates.fit-sound}
use Rattle.cbor_machine.proofs.Frames.{settled_fit}

pub returns-clause-agrees : goal.returns-clause-agrees
returns-clause-agrees c = λ t ms s h i.
    let is = c.self.view_is in
    let after = c.close-self-inside.ensures in
    item-agrees c.args.self.now _ t c.args.bytes.now ms s h i c.below_256.ensures c.requires.expected (ap (λ (m : MachineView). m.depth) is)
    (after.state ∙ ap (λ (m : MachineView). close (frames_of m.inner.frames)) is) after.settled
    (fit-sound _ c.self.inside.limits.depth (record { open_count = refl; expected = refl; item_expected = refl; in_payload = refl; complete = refl }) (settled_fit _ _ _ after.settled))
    (omega (arith, after.fewer, c.self.invariant.within))
    (ap (λ (m : MachineView). m.taken + length c.args.bytes.now) is)
    (omega (arith, c.requires.within, ap (λ (m : MachineView). m.bytes) is, ap (λ (m : MachineView). m.taken) is)) refl (ap (λ (m : MachineView). m.refusal) is)
