use Rattle.std.proofs.Common.{◌≡◌, ◌≤◌, take}
use Rattle.std.specs.List.{count_by}
use Rattle.cbor_builder.proofs.repeats.count_before.Given as goal
use Rattle.cbor_builder.specs.inner.Repeats.{lies_before}

abbrev pub invariant-loop-span : goal.invariant-loop-span
invariant-loop-span l = (l.count ≡ count_by (lies_before l.at) (take l.span-index l.spans)) × (l.count ≤ l.span-index)
