use Rattle.std.proofs.Common.{sym, ap, ◌∙◌}
use Rattle.cbor_head.specs.Value.{array}
use Rattle.cbor_cursor.proofs.cursor.Cursor.members.Goals as goal
use Rattle.cbor_cursor.{specs.Decoded.value_in, specs.Decoded.members_in, proofs.ItemParts.array_content, proofs.NormalValues.parts}

pub new-requires : goal.new-requires
new-requires c =
    let o = c.self.inside.order in
    let f = c.in_ok-content.ensures o c.self.invariant in
    let a = array_content o _ c.in_ok-content.content.now c.in_ok-content.count c.self.invariant f.0 f.1 f.2 in
    (parts o a.vs _ _ a.range a.valid a.normal_are a.count_is a.bytes_are).canonical_are

pub returns-clause-values : goal.returns-clause-values
returns-clause-values c =
    let o = c.self.inside.order in
    let f = c.in_ok-content.ensures o c.self.invariant in
    let a = array_content o _ c.in_ok-content.content.now c.in_ok-content.count c.self.invariant f.0 f.1 f.2 in
    let p = parts o a.vs _ _ a.range a.valid a.normal_are a.count_is a.bytes_are in
    ap value_in (sym c.self.view_is) ∙ a.is ∙ ap array (sym p.values_are ∙ ap members_in (sym c.new.ensures))
