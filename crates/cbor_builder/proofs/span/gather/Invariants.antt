use Rattle.std.proofs.Common.{◌≡◌, ◌++◌, length, take, drop, map, flat_map}
use Rattle.theory_values.specs.Pairs.{pair_bytes}
use Rattle.cbor_builder.proofs.span.gather.Given as goal
use Rattle.cbor_builder.specs.inner.Spans.{span_pair}

abbrev pub invariant-loop-span : goal.invariant-loop-span
invariant-loop-span l =
    (l.fn.out ++ flat_map pair_bytes (map (span_pair l.fn.out) l.spans) ≡ l.out ++ flat_map pair_bytes (map (span_pair l.fn.out) (drop l.span-index l.spans)))
    × (take (length l.fn.out) l.out ≡ l.fn.out)
    × (l.memory ≡ l.fn.memory)
