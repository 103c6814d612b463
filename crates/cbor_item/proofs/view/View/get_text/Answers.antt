use Rattle.std.proofs.Common.{get_or, ap, ◌∙◌, arith}
use Rattle.cbor_head.specs.Value.{text}
use Rattle.theory_values.{proofs.Decided.was_true, proofs.Decided.was_false, specs.Lookup.HasValueAt}
use Rattle.cbor_item.proofs.Lookups.{looked_by, found_by, none_following, same_text}
use Rattle.cbor_item.proofs.view.View.get_text.Goals as goal
use Rattle.cbor_item.{specs.ViewValue.view_value, specs.declared.view.View.TheVariants.Unsigned, proofs.ViewValues.view_value-Map}

pub returns-then-is_text : goal.returns-then-is_text
returns-then-is_text c =
    let ps = c.in-Map.pairs.now in
    let s = c.args.key.now in
    coe 1 0 (i. HasValueAt ((ap view_value c.in-Map.is ∙ view_value-Map c.in-Map.pairs) i) (text s) (view_value (get_or ps c.loop-found.found-index (Unsigned 0, Unsigned 0)).1))
    (found_by (text s) ps c.loop-found.found-index (Unsigned 0, Unsigned 0) c.loop-found-test.true ((same_text _ s).1 (was_true c.is_text.result c.if-is_text.true c.is_text.ensures)))

pub loop-found-preserved : goal.loop-found-preserved
loop-found-preserved c =
    looked_by (text c.args.key.now) c.in-Map.pairs.now c.loop-found.found-index (Unsigned 0, Unsigned 0) c.loop-found-test.true c.loop-found.invariant
    (λ h. was_false c.is_text.result c.if-is_text.false c.is_text.ensures ((same_text _ c.args.key.now).0 h))

pub returns : goal.returns
returns c = λ v h.
    none_following (text c.args.key.now) c.in-Map.pairs.now c.loop-found.found-index (omega arith) c.loop-found.invariant v (coe 0 1 (i. HasValueAt ((ap view_value c.in-Map.is ∙ view_value-Map c.in-Map.pairs) i) (text c.args.key.now) v) h)
