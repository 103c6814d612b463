use Rattle.std.proofs.Common.{◌≡◌, ◌≤◌, length, drop}
use Rattle.std.specs.List.{insert}
use Rattle.cbor_builder.proofs.insertion.insert.Given as goal
use Rattle.cbor_builder.{specs.declared.span.Span.Span, specs.inner.Prefix.at_start, proofs.Inserted.AreAbove}

abbrev pub invariant-loop-at : goal.invariant-loop-at
invariant-loop-at l =
    let prefix = at_start l.fn.places in
    (free : Span) × (l.places ≡ insert prefix l.at free) × (l.at ≤ length prefix) × AreAbove l.order l.bytes l.next (drop l.at prefix)

abbrev pub decreases-loop-at : goal.decreases-loop-at
decreases-loop-at l = l.at
