use Rattle.std.proofs.Common.{◌-◌}
use Rattle.cbor_strict.proofs.strict_reader.read_strict_by.Given as goal
use Rattle.cbor_strict.{specs.StrictReader.limits_of, proofs.StrictLoop.IsRunning}

abbrev pub invariant-events : goal.invariant-events
invariant-events g l = IsRunning l.fn.order (limits_of l.fn.events) l.events (g.R.Read.remaining l.fn.reader) (g.R.Read.remaining l.reader)

abbrev pub decreases-events : goal.decreases-events
decreases-events g l = l.events.machine.bytes - l.events.machine.taken
