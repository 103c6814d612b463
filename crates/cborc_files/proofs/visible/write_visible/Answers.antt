use Rattle.std.proofs.Common.{ℕ, List, ◌∙◌, ap, flat_map, map-id, subst, sym}
use Rattle.std.{proofs.lemmas.Iterator.YieldsList-from_chars, proofs.lemmas.Iterator.Consumers.YieldsList-end, specs.Fmt.HasWritten}
use Rattle.cborc_files.proofs.visible.write_visible.Goals as goal
use Rattle.cborc_files.specs.Visible.{visible_character}

pub returns : goal.returns
returns g c plain ok =
    let end = YieldsList-end (YieldsList-from_chars c.args.path.now c.utf8.path cc) c.loop-character.yielded _ c.loop-character.yielded_by _ _ c.in-None.is c.next.ensures.steps in
    subst (λ (text : List ℕ). HasWritten g.W.Write.write_str_gives c.args.f.now text c.loop-character.f)
    (ap (flat_map visible_character) (sym (map-id c.loop-character.yielded) ∙ end.0)) (c.loop-character.invariant plain)
