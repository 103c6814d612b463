use Rattle.std.proofs.Common.{arith}
use Rattle.naltvigo.proofs.WholeInputs.{owns, followed, refuses}
use Rattle.naltvigo.proofs.checking.check_own_bytes.Goals as goal

pub returns-in-Ok-clause-refused : goal.returns-in-Ok-clause-refused
returns-in-Ok-clause-refused c =
    followed c.args.limits c.args.order c.args.input.now
    (c.own_results_are_strictly_accepted.ensures _ _ _ (omega arith))
    c.in-Ok.count c.trailing.result c.in-Ok.ensures.accepted c.in-Ok.ensures.canonical c.if-count-input.true c.trailing.ensures

pub returns-in-Ok-2-clause-own : goal.returns-in-Ok-2-clause-own
returns-in-Ok-2-clause-own c =
    owns c.args.limits c.args.order c.args.input.now
    (c.own_results_are_strictly_accepted.ensures _ _ _ (omega arith))
    c.in-Ok.count c.in-Ok.ensures.accepted c.in-Ok.ensures.canonical c.if-count-input.false

pub returns-in-Err-clause-refused : goal.returns-in-Err-clause-refused
returns-in-Err-clause-refused c =
    refuses c.args.limits c.args.order c.args.input.now
    (c.own_results_are_strictly_accepted.ensures _ _ _ (omega arith))
    c.in-Err.refusal c.in-Err.ensures.refused c.in-Err.ensures.no_canonical
