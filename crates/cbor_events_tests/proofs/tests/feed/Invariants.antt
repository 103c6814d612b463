use Rattle.std.proofs.Common.{◌≤◌, ◌-◌, length, take}
use Rattle.cbor_machine.specs.Steps.{Goes}
use Rattle.cbor_events_tests.proofs.tests.feed.Given as goal

-- the bytes used were consumed
abbrev pub invariant-all : goal.invariant-all
invariant-all l = (l.at ≤ length l.input) × Goes l.fn.machine l.machine (take l.at l.input)

abbrev pub decreases-all : goal.decreases-all
decreases-all l = length l.input - l.at
