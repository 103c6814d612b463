use Rattle.std.proofs.Common.{◌≡◌, ◌-◌, ◌++◌, ℕ, take, length, length-append, sym, ap, ◌∙◌, subst, arith, flat_map, length-take-le}
use Rattle.cbor_head.specs.Prelude.{in_order}
use Rattle.theory_values.{specs.Parts.closed, specs.Parts.HasNoRepeats, specs.Pairs.pair_bytes, proofs.Decided.holds}
use Rattle.cbor_builder.proofs.builder.Core.close_top.Goals as goal
use Rattle.cbor_builder.{specs.inner.Laid.shape_open, specs.inner.Laid.pairs_from, specs.declared.frame.Shape.Shape, proofs.Growth.map_sorted}

pub fill_head-requires-in-Map-clause-ends : goal.fill_head-requires-in-Map-clause-ends
fill_head-requires-in-Map-clause-ends c =
    let s = c.args.self.now in
    let k = c.in_ok-order_pairs-in-Map.ensures in
    let pairs = flat_map pair_bytes (in_order s.order (pairs_from s.out s.spans.items c.in-Map.first)) in
    let n = length-take-le s.top.start s.out c.requires.laid.0.1 in
    omega (arith, length-append (take s.top.start s.out) pairs, n, ap length (k.out c.if-not-branch.false))

pub returns-in_ok-fill_head-in-Map-clause-distinct : goal.returns-in_ok-fill_head-in-Map-clause-distinct
returns-in_ok-fill_head-in-Map-clause-distinct c =
    let s = c.args.self.now in
    holds (subst (λ (h : Shape). HasNoRepeats (shape_open s.out s.spans.items s.top.start h)) (sym c.in-Map.is) (c.in_ok-order_pairs-in-Map.ensures.distinct.0 c.if-not-branch.false))

pub returns-in_ok-fill_head-in-Map-clause-bytes : goal.returns-in_ok-fill_head-in-Map-clause-bytes
returns-in_ok-fill_head-in-Map-clause-bytes c = λ t.
    let s = c.args.self.now in
    let f = s.top in
    let k = c.in_ok-order_pairs-in-Map.ensures in
    subst (λ (h : Shape). c.fill_head-in-Map.new.self ≡ take f.from s.out ++ closed s.order (shape_open s.out s.spans.items f.start h)) (sym c.in-Map.is)
    (map_sorted s.order s.out s.spans.items f.from f.start c.in-Map.first (c.len.result - c.in-Map.first) c.order_pairs.new.self.out c.fill_head-in-Map.new.self c.requires.laid.0.0 c.requires.laid.0.1
    (ap (λ (n : ℕ). n - c.in-Map.first) (c.len.ensures ∙ s.spans.ok.0)) (k.out c.if-not-branch.false) c.in_ok-fill_head-in-Map.ensures.filled)
