use Rattle.std.proofs.Common.{◌≡◌, ◌+◌, length, arith, ap, refl, ◌∙◌, subst}
use Rattle.cbor_machine.specs.declared.step.Out.TheVariants as outs
use Rattle.cbor_machine.proofs.MachineStates.{is_returned, fit-sound, step-from}
use Rattle.cbor_machine.proofs.machine.Machine.take_whole.Goals as goal
use Rattle.cbor_machine.specs.{State.state_of, State.wanted_at, Feed.IsWalked, declared.feed.FeedResult.TheVariants.Reported}
use Rattle.cbor_machine.{proofs.Frames.settled_fit, specs.MachineView.MachineView, specs.Steps.Ran, proofs.NextEvents.all-used, proofs.NextEvents.wants-all}

pub returns-clause-returned : goal.returns-clause-returned
returns-clause-returned c = λ t ms h.
    let xs = c.args.input.now in
    let e = c.in_ok-prefix.prefix in
    let reported = c.in_ok-prefix.ensures in
    let wants = wants-all c.args.self.now (length xs) c.requires.some c.requires.wanted in
    let expected = ap (λ (m : MachineView). m.expected) c.self.view_is in
    let used : e.used ≡ length xs = reported.wanted (omega (arith, wants.0, expected)) in
    let depth : c.from-depth.result ≡ c.self.inside.limits.depth = c.from-depth.ensures ∙ c.depth.ensures.depth in
    let from = state_of c.self.inside.position c.self.inside.container_stack in
    let to = state_of c.walk_whole.new.position c.walk_whole.new.container_stack in
    let walked = subst (λ d. IsWalked (Reported e.width e.kind) d from to xs) depth (subst (λ bs. IsWalked (Reported e.width e.kind) c.from-depth.result from to bs) (all-used e.used xs used) reported.ran) in
    let ran : Ran _ _ xs _ = record { ran = walked; taken = ap (λ n. c.self.inside.taken + n) used } in
    let event = outs.Event (record { place = c.self.inside.reported; width = e.width; kind = e.kind }) in
    is_returned event _ _ t xs ms h c.below_256.ensures
    (λ done. omega (arith, c.requires.some, wants.0, expected, ap wanted_at (ap (λ (m : MachineView). m.inner.position) c.self.view_is ∙ done))) (ap (λ (m : MachineView). m.depth) c.self.view_is)
    (fit-sound _ c.self.inside.limits.depth (record { open_count = refl; expected = refl; item_expected = refl; in_payload = refl; complete = refl }) (settled_fit _ _ _ reported.clear)) (omega (arith, c.walk_whole.ensures.within, depth))
    (ap (λ n. c.self.inside.taken + n) used ∙ ap (λ (m : MachineView). m.taken + length xs) c.self.view_is)
    (omega (arith, used, wants.1, c.self.invariant.taken, ap (λ (m : MachineView). m.bytes) c.self.view_is, ap (λ (m : MachineView). m.taken) c.self.view_is))
    (step-from event _ _ _ xs c.self.view_is (ran, ap (λ (m : MachineView). m.refusal) c.self.view_is ∙ wants.2, refl, refl, reported.clear, reported.proper))
