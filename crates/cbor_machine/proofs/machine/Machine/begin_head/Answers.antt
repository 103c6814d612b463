use Rattle.std.proofs.Common.{◌≡◌, ◌+◌, [], ◌∷◌, arith, ap, sym, refl, ◌∙◌, subst}
use Rattle.theory_automaton.specs.Automaton.{at_item, run, reached}
use Rattle.theory_automaton.proofs.Runs.{run-one}
use Rattle.cbor_machine.specs.State.{state_of, frames_of, wanted_at, IsFit}
use Rattle.cbor_machine.specs.declared.step.Out.TheVariants as outs
use Rattle.cbor_machine.proofs.MachineStates.{is_returned, fit-sound, step-from}
use Rattle.cbor_machine.proofs.machine.Machine.begin_head.Goals as goal
use Rattle.cbor_machine.{specs.MachineView.MachineView, specs.Steps.Ran, proofs.NextEvents.wants-all}

pub returns-in-Some-clause-begun : goal.returns-in-Some-clause-begun
returns-in-Some-clause-begun c = λ begun t ms h.
    let bs = c.args.c ∷ [] in
    let container_stack = c.self.inside.container_stack in
    let to = state_of c.in-Some.position container_stack in
    let wants = wants-all c.args.self.now 1 (omega arith) (omega (arith, c.requires)) in
    let expected = ap (λ (m : MachineView). m.expected) c.self.view_is in
    let depth : c.from-depth.result ≡ c.self.inside.limits.depth = c.from-depth.ensures ∙ c.depth.ensures.depth in
    let here = run-one c.from-depth.result c.args.c (at_item (frames_of container_stack)) to c.in-Some.ensures.next in
    let within = subst (λ d. run d (at_item (frames_of container_stack)) bs ≡ reached to []) depth here in
    let walked = subst (λ p. run c.self.inside.limits.depth (state_of p container_stack) bs ≡ reached to []) (sym c.in-Item.is) within in
    let ran : Ran _ _ bs [] = record { ran = walked; taken = refl } in
    is_returned outs.More _ _ t bs ms h (c.ranges.c.fits, tt)
    (λ done. omega (arith, wants.0, expected, ap wanted_at (ap (λ (m : MachineView). m.inner.position) c.self.view_is ∙ done))) (ap (λ (m : MachineView). m.depth) c.self.view_is)
    (fit-sound _ c.self.inside.limits.depth (record { open_count = refl; expected = refl; item_expected = refl; in_payload = refl; complete = refl }) (subst (λ d. IsFit d container_stack c.in-Some.position) depth c.in-Some.ensures.fits)) (omega (arith, c.self.invariant.within))
    (ap (λ (m : MachineView). m.taken + 1) c.self.view_is)
    (omega (arith, wants.1, c.self.invariant.taken, ap (λ (m : MachineView). m.bytes) c.self.view_is, ap (λ (m : MachineView). m.taken) c.self.view_is))
    (step-from outs.More _ _ _ bs c.self.view_is (ran, ap (λ (m : MachineView). m.refusal) c.self.view_is ∙ wants.2, refl))
