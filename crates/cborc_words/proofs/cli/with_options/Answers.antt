use Rattle.std.proofs.{Common.refl, Common.rules, lemmas.Result.IfOk-weaker}
use Rattle.cborc_words.proofs.cli.with_options.Goals as goal
use Rattle.cborc_words.proofs.Builds.{adds_rule}

pub returns : goal.returns
returns c =
    let kinds = c.keys.ensures in
    let two = adds_rule _ _ _ _ _ c.in_ok-arg-2.ensures (adds_rule _ _ _ _ _ c.in_ok-arg.ensures refl c.depth.ensures) c.bytes.ensures in
    let three = adds_rule _ _ _ _ _ c.in_ok-arg-3.ensures two kinds.1 in
    let four = adds_rule _ _ _ _ _ c.in_ok-arg-4.ensures three (search rules) in
    let five = adds_rule _ _ _ _ _ c.in_ok-arg-5.ensures four (search rules) in
    IfOk-weaker c.arg-6.result _ _ (λ r h. (kinds.0, adds_rule _ _ _ _ _ h five (search rules))) c.arg-6.ensures
