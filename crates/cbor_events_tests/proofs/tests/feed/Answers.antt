use Rattle.std.proofs.Common.{◌≤◌, ◌+◌, length, take, ℕ, List}
use Rattle.theory_automaton.specs.{Trace.Mark, Marks.marks_of}
use Rattle.cbor_machine.proofs.Feeding.{goes-on, more-returned, rest_from, split-rest, split-whole, fits-rest}
use Rattle.cbor_machine.specs.Machine.{Represents}
use Rattle.cbor_events_tests.proofs.tests.feed.Goals as goal

pub all-preserved : goal.all-preserved
all-preserved c =
    let at = c.all.at in
    let used = c.step-step.result.used in
    let space : at ≤ length c.args.input.now = c.all.invariant.0 in
    let outcome = λ (t : List ℕ) (ms : List Mark) (h : Represents c.all.machine t ms). (rw c.in-Event.is at (c.step-step.ensures.returned t ms h)).agrees in (
      fits-rest at used c.args.input.now space c.step-step.ensures.used.0,
      goes-on c.args.machine.now c.all.machine c.step-step.new.self (take at c.args.input.now) (take used (rest_from at c.args.input.now)) (take (at + used) c.args.input.now)
          (marks_of c.in-Event.field-0.width c.in-Event.field-0.kind) c.all.invariant.1 outcome (split-rest at used c.args.input.now),
    )

pub returns-in_default : goal.returns-in_default
returns-in_default c =
    let at = c.all.at in
    let used = c.step-step.result.used in
    let space : at ≤ length c.args.input.now = c.all.invariant.0 in
    record {
      used = fits-rest at used c.args.input.now space c.step-step.ensures.used.0;
      more = λ i.
          goes-on c.args.machine.now c.all.machine c.step-step.new.self (take at c.args.input.now) (take used (rest_from at c.args.input.now)) c.args.input.now
          _ c.all.invariant.1 (λ t ms h. more-returned c.step-step.result.out c.step-step.new.self t (take used (rest_from at c.args.input.now)) ms i (c.step-step.ensures.returned t ms h))
          (split-whole at used c.args.input.now (c.step-step.ensures.more i).0);
    }
