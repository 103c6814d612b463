use Rattle.std.proofs.Common.{[], ◌++◌, inr, refl, arith, subst}
use Rattle.std.proofs.KnownBytes.{Consumes-nil}
use Rattle.cbor_machine.specs.declared.step.Out.TheVariants as outs
use Rattle.cbor_machine.specs.{Machine.IsComplete, Machine.IsRefused, Steps.IsStep, NextEvent.machine_call}
use Rattle.cbor_machine.proofs.{NextEvents.end-here, NextEvents.all-used, NextRefusals.still-expected, NextRefusals.stopped-here}
use Rattle.cbor_events.proofs.item_events.reading.at_end.Goals as goal

pub returns-in-Done-clause-returned : goal.returns-in-Done-clause-returned
returns-in-Done-clause-returned c = λ was from to kept t ms h r depth.
    let m = c.args.machine.now in
    let complete : IsComplete m = (rw c.in-Done.is at c.take_part.ensures.done.0) tt in
    end-here from to to was m c.take_part.new.machine kept t [] ms h r depth complete (c.take_part.ensures.stays complete).1 (Consumes-nil to) refl

pub returns-in-Refused-clause-returned : goal.returns-in-Refused-clause-returned
returns-in-Refused-clause-returned c = λ was from to kept t ms h r depth.
    let m = c.args.machine.now in
    let f = c.in-Refused.refusal in
    let going : ¬ IsComplete m = λ k. let d = c.take_part.ensures.done.1 k in rw c.in-Refused.is at d in
    let new = c.take_part.new.machine in
    let all = all-used c.take_part.result.used [] (c.take_part.ensures.exact (omega arith)) in
    let refused = subst (λ xs. IsRefused f new (t ++ r.bytes) xs ms) all (rw c.in-Refused.is at (c.take_part.ensures.returned (t ++ r.bytes) ms r.agrees)) in
    let walked = subst (λ xs. IsStep (outs.Refused f) m new xs) all (rw c.in-Refused.is at (c.take_part.ensures.walked r.agrees.live)) in (
      still-expected from to was m t ms h.agrees r depth going,
      inr (stopped-here f (machine_call was c.take_part.new.machine from to kept kept t ms) to m [] r (Consumes-nil to) tt going c.take_part.ensures.limits.depth
          (omega (arith, r.agrees.limited, c.take_part.ensures.limits.bytes)) refused walked),
    )
