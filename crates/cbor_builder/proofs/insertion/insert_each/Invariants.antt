use Rattle.std.proofs.Common.{◌≡◌, map, take, drop, IsPermutation}
use Rattle.theory_values.specs.Pairs.{IsRising}
use Rattle.cbor_builder.proofs.insertion.insert_each.Given as goal
use Rattle.cbor_builder.specs.inner.Spans.{span_pair}

abbrev pub invariant-loop-i : goal.invariant-loop-i
invariant-loop-i l =
    IsPermutation (take l.i l.initial.spans) (take l.i l.spans) × IsRising l.order (map (span_pair l.bytes) (take l.i l.spans)) × (drop l.i l.spans ≡ drop l.i l.initial.spans)
