use Rattle.std.proofs.Common.{◌-◌, length}
use Rattle.cbor_stream.proofs.strict_machine.StrictMachine.check.Given as goal
use Rattle.cbor_stream.proofs.Checking.{IsChecked}

abbrev pub invariant-events : goal.invariant-events
invariant-events l = IsChecked l.fn.self l.self l.input l.used

abbrev pub decreases-events : goal.decreases-events
decreases-events l = length l.input - l.used
