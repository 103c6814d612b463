use Rattle.std.proofs.Common.{List, ℕ, ◌++◌, length, length-take, take, ap, ◌∙◌, arith, slice_index_or}
use Rattle.cbor_builder.proofs.span.gather.Goals as goal
use Rattle.cbor_builder.{specs.inner.Spans.no_span, proofs.Gathered.gathered_at, proofs.Gathered.gathered_all, proofs.ByIndex.all_index}
use Rattle.cbor_builder.proofs.Slices.{prefix_kept, slice_within}

pub loop-span-preserved : goal.loop-span-preserved
loop-span-preserved c =
    let out = c.args.out.now in
    let s = slice_index_or c.args.spans.now c.loop-span.span-index no_span in
    let w = all_index _ c.args.spans.now c.loop-span.span-index no_span c.requires c.loop-span-test.true in
    let i = c.loop-span.invariant in
    let same = slice_within c.loop-span.out out s.key s.end i.1 (omega (arith, w.0, w.1)) w.2 in
    let more = c.in_ok-extend_within.ensures.appended ∙ ap (λ (xs : List ℕ). c.loop-span.out ++ xs) same in (
      gathered_at out c.args.spans.now c.loop-span.span-index no_span _ c.loop-span.out c.extend_within.new.self c.requires c.loop-span-test.true i.0 more,
      ap (take (length out)) more ∙ prefix_kept out c.loop-span.out _ i.1,
      c.in_ok-extend_within.ensures.kept ∙ i.2,
    )

pub extend_within-requires : goal.extend_within-requires
extend_within-requires c =
    let w = all_index _ c.args.spans.now c.loop-span.span-index no_span c.requires c.loop-span-test.true in
    record { begins = omega (arith, w.0, w.1); ends = omega (arith, w.2, length-take (length c.args.out.now) c.loop-span.out, ap length c.loop-span.invariant.1) }

pub returns-clause-gathered : goal.returns-clause-gathered
returns-clause-gathered c = gathered_all c.args.out.now c.args.spans.now c.loop-span.span-index _ c.loop-span.out c.loop-span-test.false c.loop-span.invariant.0
