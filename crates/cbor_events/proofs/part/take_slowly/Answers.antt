use Rattle.std.proofs.Common.{◌++◌, subst}
use Rattle.cbor_machine.specs.Machine.{Represents, IsGiven, IsRefused}
use Rattle.cbor_machine.specs.declared.step.Out.TheVariants as outs
use Rattle.cbor_machine.{specs.Steps.IsStep, proofs.NextEvents.all-used, proofs.NextEvents.wants-all}
use Rattle.cbor_events.proofs.part.take_slowly.Goals as goal

pub returns-in-Event-clause-returned : goal.returns-in-Event-clause-returned
returns-in-Event-clause-returned c = λ t ms h.
    let all = all-used c.take_part.result.used c.args.part.now (c.take_part.ensures.exact c.requires.wanted) in
    rw c.in-Event.event-is (subst (λ xs. IsGiven c.in-Event.event c.take_part.new.machine t xs ms) all (rw c.in-Event.is at (c.take_part.ensures.returned t ms h)))

pub returns-in-More-clause-returned : goal.returns-in-More-clause-returned
returns-in-More-clause-returned c = λ t ms h.
    let all = all-used c.take_part.result.used c.args.part.now (c.take_part.ensures.exact c.requires.wanted) in
    subst (λ xs. Represents c.take_part.new.machine (t ++ xs) ms) all (rw c.in-More.is at (c.take_part.ensures.returned t ms h))

pub returns-in-Refused-clause-returned : goal.returns-in-Refused-clause-returned
returns-in-Refused-clause-returned c = λ t ms h.
    let f = c.in-Refused.refusal in
    let all = all-used c.take_part.result.used c.args.part.now (c.take_part.ensures.exact c.requires.wanted) in
    let live = wants-all c.args.machine.now _ c.requires.some c.requires.wanted in (
      subst (λ xs. IsRefused f c.take_part.new.machine t xs ms) all (rw c.in-Refused.is at (c.take_part.ensures.returned t ms h)),
      subst (λ xs. IsStep (outs.Refused f) c.args.machine.now c.take_part.new.machine xs) all (rw c.in-Refused.is at (c.take_part.ensures.walked live.2)),
    )
