use Rattle.std.proofs.Common.{◌-◌, ◌≤◌, length}
use Rattle.cbor_builder.specs.inner.Repeats.{nth, IsFirstTie, IsLeastOfKey}
use Rattle.cbor_builder.proofs.repeats.first_tie.Given as goal
use Rattle.cbor_builder.specs.inner.Prefix.{key_of}

abbrev pub invariant-loop-i : goal.invariant-loop-i
invariant-loop-i l = (l.i ≤ length l.spans) × IsFirstTie l.bytes l.spans l.i l.first × IsLeastOfKey l.bytes l.spans l.i (key_of l.bytes (nth l.spans (l.i - 1))) l.least
