use Rattle.std.proofs.Common.{get_or, sym, ap, ◌∙◌, arith, to_z, of_z, w64}
use Rattle.std.proofs.lemmas.Int.{to_z-of_z}
use Rattle.theory_values.{proofs.Decided.was_true, proofs.Decided.was_false, specs.Lookup.HasValueAt, specs.Lookup.integer}
use Rattle.cbor_item.proofs.Lookups.{looked_by, found_by, none_following, same_integer}
use Rattle.cbor_item.proofs.view.View.get_integer.Goals as goal
use Rattle.cbor_item.{specs.ViewValue.view_value, specs.declared.view.View.TheVariants.Unsigned, proofs.ViewValues.view_value-Map}

pub returns-then-is_integer : goal.returns-then-is_integer
returns-then-is_integer c =
    let ps = c.in-Map.pairs.now in
    let key = c.args.key in
    let same = was_true c.is_integer.result c.if-is_integer.true c.is_integer.ensures ∙ ap integer (to_z-of_z w64 key c.ranges.key) in
    coe 1 0 (i. HasValueAt ((ap view_value c.in-Map.is ∙ view_value-Map c.in-Map.pairs) i) (integer key) (view_value (get_or ps c.loop-found.found-index (Unsigned 0, Unsigned 0)).1))
    (found_by (integer key) ps c.loop-found.found-index (Unsigned 0, Unsigned 0) c.loop-found-test.true ((same_integer _ key).1 same))

pub loop-found-preserved : goal.loop-found-preserved
loop-found-preserved c =
    let key = to_z w64 (of_z w64 c.args.key) in
    looked_by (integer key) c.in-Map.pairs.now c.loop-found.found-index (Unsigned 0, Unsigned 0) c.loop-found-test.true c.loop-found.invariant
    (λ h. was_false c.is_integer.result c.if-is_integer.false c.is_integer.ensures ((same_integer _ key).0 h))

pub returns : goal.returns
returns c = λ v h.
    none_following (integer (to_z w64 (of_z w64 c.args.key))) c.in-Map.pairs.now c.loop-found.found-index (omega arith) c.loop-found.invariant v
    (coe 0 1 (i. HasValueAt ((ap view_value c.in-Map.is ∙ view_value-Map c.in-Map.pairs) i) (integer (sym (to_z-of_z w64 c.args.key c.ranges.key) i)) v) h)
