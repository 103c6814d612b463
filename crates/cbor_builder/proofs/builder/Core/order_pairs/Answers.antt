use Rattle.std.proofs.Common.{◌∙◌, ◌++◌, ℕ, List, take, drop, length, map, ap, arith, flat_map}
use Rattle.std.proofs.lemmas.List.{take_rest}
use Rattle.cbor_head.specs.Prelude.{Pair}
use Rattle.theory_values.{specs.Pairs.pair_bytes, proofs.Decided.holds, proofs.Sorting.rising_distinct}
use Rattle.cbor_builder.proofs.builder.Core.order_pairs.Goals as goal
use Rattle.cbor_builder.specs.{inner.Spans.span_pair, inner.Spans.AreWithin, declared.span.Span.Span, declared.frame.Frame.Frame, inner.Laid.pairs_from}
use Rattle.cbor_builder.proofs.{Growth.tile_within, InOrder.risen, Ranks.all_permuted}

pub returns-then-self-clause-distinct : goal.returns-then-self-clause-distinct
returns-then-self-clause-distinct c =
    let s = c.args.self.now in holds (rising_distinct s.order (pairs_from s.out s.spans.items c.args.first) (c.requires.fits.2 c.if-self.true))

pub returns-then-self-clause-out : goal.returns-then-self-clause-out
returns-then-self-clause-out c = λ t. let s = c.args.self.now in risen s.order s.out s.spans.items s.top.start c.args.first c.requires.fits.1 (c.requires.fits.2 c.if-self.true)

pub returns-clause-out : goal.returns-clause-out
returns-clause-out c = λ t.
    let s = c.args.self.now in
    let n = c.order_spans.new.self in
    let e = c.order_spans.ensures in
    let us = take_rest c.deref.result.now c.args.first ∙ ap (drop c.args.first) c.deref.ensures.value in
    c.in_ok-rearrange.ensures.ordered
    ∙ ap (λ (ts : List Span). take n.top.start n.out ++ flat_map pair_bytes (map (span_pair n.out) ts)) us
    ∙ ap (λ (out : List ℕ). take n.top.start out ++ flat_map pair_bytes (pairs_from out n.spans.items c.args.first)) e.out
    ∙ ap (λ (f : Frame). take f.start s.out ++ flat_map pair_bytes (pairs_from s.out n.spans.items c.args.first)) e.top
    ∙ ap (λ (ps : List Pair). take s.top.start s.out ++ flat_map pair_bytes ps) (e.pairs c.if-not-order_spans.false)

pub rearrange-requires : goal.rearrange-requires
rearrange-requires c =
    let s = c.args.self.now in
    let xs = drop c.args.first s.spans.items in
    let e = c.order_spans.ensures in
    let us = take_rest c.deref.result.now c.args.first ∙ ap (drop c.args.first) c.deref.ensures.value in
    record {
      begins = omega (arith, c.requires.within, ap (λ (f : Frame). f.start) e.top, ap length e.out);
      within = coe 1 0 (i. AreWithin (e.out i) (us i)) (all_permuted _ xs _ e.permuted (tile_within s.out s.top.start xs (length s.out) c.requires.fits.1 (omega arith)));
    }
