use Rattle.std.proofs.Common.{◌≡◌, ◌∙◌, ap, codes, rules}
use Rattle.std.proofs.lemmas.Result.{IfOk-weaker}
use Rattle.clap.specs.Words.{App, app_of, new_app}
use Rattle.cborc_words.specs.Cli as grammar
use Rattle.cborc_words.proofs.cli.check.Goals as goal
use Rattle.cborc_words.{specs.inner.Commands.with_rules, specs.inner.Commands.HasRule, proofs.Builds.adds_rule}

pub returns : goal.returns
returns c =
    let empty : app_of c.about.result ≡ new_app (codes "check") = search rules in
    let first : HasRule (grammar.inputs (codes "FILE")) c.inputs.result = search rules in
    let second : HasRule (grammar.flag (codes "strict")) c.flag.result = search rules in
    let third : HasRule grammar.sequence c.sequence.result = search rules in
    let orders = c.order.ensures in
    let one = adds_rule _ _ _ _ _ c.in_ok-arg.ensures empty first in
    let two = adds_rule _ _ _ _ _ c.in_ok-arg-2.ensures one second in
    let three = adds_rule _ _ _ _ _ c.in_ok-arg-3.ensures two third in
    let command = adds_rule _ _ _ _ _ c.in_ok-command.ensures three orders.1 in
    IfOk-weaker c.with_options.result _ _ (λ r h. (orders.0, h.0, h.1 ∙ ap (λ (app : App). with_rules app (grammar.options h.0)) command)) c.with_options.ensures
