use Rattle.std.proofs.Common.{sym, ap, ◌∙◌}
use Rattle.cbor_head.specs.Value.{tag}
use Rattle.cbor_cursor.proofs.cursor.Cursor.tag.Goals as goal
use Rattle.cbor_cursor.{specs.Decoded.value_in, proofs.ItemParts.tag_content}

pub new-requires : goal.new-requires
new-requires c =
    let o = c.self.inside.order in
    let f = c.in_ok-content.ensures o c.self.invariant in
    (tag_content o _ c.in_ok-content.content.now c.in_ok-content.number c.self.invariant f.0 f.1 f.2).canonical_is

pub returns-clause-content : goal.returns-clause-content
returns-clause-content c =
    let o = c.self.inside.order in
    let f = c.in_ok-content.ensures o c.self.invariant in
    let t = tag_content o _ c.in_ok-content.content.now c.in_ok-content.number c.self.invariant f.0 f.1 f.2 in
    ap value_in (sym c.self.view_is) ∙ t.is ∙ ap (tag c.in_ok-content.number) (ap value_in (sym c.new.ensures))
