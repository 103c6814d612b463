use Rattle.std.proofs.Common.{◌≡◌, ◌∷◌, [], codes, map, rules}
use Rattle.cborc_words.specs.Cli as grammar
use Rattle.cborc_words.proofs.cli.order.Goals as goal
use Rattle.cborc_words.specs.inner.Commands.{HasRule}

pub returns : goal.returns
returns c =
    let named : map (λ name. name.now) c.as_slice.result.now ≡ codes "bytewise" ∷ codes "length" ∷ codes "length-first" ∷ [] = search rules in
    let rule : HasRule (grammar.order (c.as_slice.result, named)) c.help.result = search rules in
    ((c.as_slice.result, named), rule)
