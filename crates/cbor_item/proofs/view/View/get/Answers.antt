use Rattle.std.proofs.Common.{get_or, ap, ◌∙◌, subst, arith}
use Rattle.cbor_head.specs.Prelude.{IsValid}
use Rattle.theory_values.{proofs.Decided.was_true, proofs.Decided.was_false, proofs.Lists.valid_at, specs.Lookup.HasValueAt}
use Rattle.cbor_item.proofs.Lookups.{looked_by, found_by, none_following}
use Rattle.cbor_item.proofs.view.View.get.Goals as goal
use Rattle.cbor_item.{specs.ViewValue.view_value, specs.declared.view.View.TheVariants.Unsigned, proofs.ViewValues.view_value-Map}

pub same-requires-clause-left : goal.same-requires-clause-left
same-requires-clause-left c =
    (valid_at view_value c.in-Map.pairs.now c.loop-found.found-index (Unsigned 0, Unsigned 0) (subst IsValid (ap view_value c.in-Map.is ∙ view_value-Map c.in-Map.pairs) c.requires.map).0 c.loop-found-test.true).0

pub returns-then-same : goal.returns-then-same
returns-then-same c =
    coe 1 0 (i. HasValueAt ((ap view_value c.in-Map.is ∙ view_value-Map c.in-Map.pairs) i) (view_value c.args.key.now) (view_value (get_or c.in-Map.pairs.now c.loop-found.found-index (Unsigned 0, Unsigned 0)).1))
    (found_by (view_value c.args.key.now) c.in-Map.pairs.now c.loop-found.found-index (Unsigned 0, Unsigned 0) c.loop-found-test.true (was_true c.same.result c.if-same.true c.same.ensures))

pub loop-found-preserved : goal.loop-found-preserved
loop-found-preserved c =
    looked_by (view_value c.args.key.now) c.in-Map.pairs.now c.loop-found.found-index (Unsigned 0, Unsigned 0) c.loop-found-test.true c.loop-found.invariant (was_false c.same.result c.if-same.false c.same.ensures)

pub returns : goal.returns
returns c = λ v h.
    none_following (view_value c.args.key.now) c.in-Map.pairs.now c.loop-found.found-index (omega arith) c.loop-found.invariant v (coe 0 1 (i. HasValueAt ((ap view_value c.in-Map.is ∙ view_value-Map c.in-Map.pairs) i) (view_value c.args.key.now) v) h)
