use Rattle.std.proofs.Common.{arith}
use Rattle.cbor_machine.proofs.whole_event.whole_argument.Goals as goal
use Rattle.cbor_machine.proofs.WholeHeads.{fed}

pub returns-clause-is : goal.returns-clause-is
returns-clause-is c = (fed c.args.left c.in_ok-low.low c.in_ok-argument.argument.number c.args.rest.now c.in_ok-argument.argument.rest.now c.in_ok-argument.argument.width c.in_ok-low.ensures.low.0 c.in_ok-low.ensures.low.1 c.in_ok-argument.ensures.spelled).0

pub returns-clause-there : goal.returns-clause-there
returns-clause-there c = (fed c.args.left c.in_ok-low.low c.in_ok-argument.argument.number c.args.rest.now c.in_ok-argument.argument.rest.now c.in_ok-argument.argument.width c.in_ok-low.ensures.low.0 c.in_ok-low.ensures.low.1 c.in_ok-argument.ensures.spelled).1

pub returns-clause-exact : goal.returns-clause-exact
returns-clause-exact c =
    let there = (fed c.args.left c.in_ok-low.low c.in_ok-argument.argument.number c.args.rest.now c.in_ok-argument.argument.rest.now c.in_ok-argument.argument.width c.in_ok-low.ensures.low.0 c.in_ok-low.ensures.low.1 c.in_ok-argument.ensures.spelled).1 in
    rw (← c.in_ok-low.ensures.width) (grind (arith, there))
