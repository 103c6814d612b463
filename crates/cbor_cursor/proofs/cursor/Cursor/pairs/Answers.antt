use Rattle.std.proofs.Common.{sym, ap, ◌∙◌}
use Rattle.cbor_head.specs.Value.{map}
use Rattle.cbor_cursor.proofs.cursor.Cursor.pairs.Goals as goal
use Rattle.cbor_cursor.{specs.Decoded.value_in, specs.Decoded.pairs_in, proofs.ItemParts.map_content, proofs.ItemParts.map_parts}

pub new-requires : goal.new-requires
new-requires c =
    let o = c.self.inside.order in
    let f = c.in_ok-content.ensures o c.self.invariant in
    let m = map_content o _ c.in_ok-content.content.now c.in_ok-content.count c.self.invariant f.0 f.1 f.2 in
    (map_parts o _ _ _ m).canonical_are

pub returns-clause-pairs : goal.returns-clause-pairs
returns-clause-pairs c =
    let o = c.self.inside.order in
    let f = c.in_ok-content.ensures o c.self.invariant in
    let m = map_content o _ c.in_ok-content.content.now c.in_ok-content.count c.self.invariant f.0 f.1 f.2 in
    ap value_in (sym c.self.view_is) ∙ m.is ∙ ap map (sym (map_parts o _ _ _ m).pairs_are ∙ ap pairs_in (sym c.new.ensures))
