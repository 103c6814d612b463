use Rattle.std.proofs.Common.{rules, ◌≡◌, ◌∷◌, [], ◌∙◌}
use Rattle.cbor_item.proofs.view_builder.ViewBuilder.finish.Goals as goal
use Rattle.cbor_item.{specs.OpenValues.the_whole, proofs.ValuesMade.whole_made, specs.ViewValue.open_levels}

pub returns-clause-made : goal.returns-clause-made
returns-clause-made c = λ v e.
    let h : open_levels c.args.self ≡ the_whole (v ∷ []) ∷ [] = e ∙ whole_made v in
    search rules
