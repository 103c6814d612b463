use Rattle.std.proofs.Common.{◌↔◌, drop, map}
use Rattle.cbor_builder.proofs.look_up.has_key_of.Given as goal
use Rattle.cbor_builder.specs.{inner.Spans.span_pair, Built.HasKey, inner.Prefix.key_of}

abbrev pub invariant-loop-span : goal.invariant-loop-span
invariant-loop-span l =
    HasKey (map (span_pair l.bytes) l.spans) (key_of l.bytes l.wanted) ↔ HasKey (map (span_pair l.bytes) (drop l.span-index l.spans)) (key_of l.bytes l.wanted)
