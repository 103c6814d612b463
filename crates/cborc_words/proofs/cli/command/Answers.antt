use Rattle.std.proofs.Common.{◌≡◌, ◌∙◌, ap, codes, refl, true}
use Rattle.std.proofs.lemmas.Result.{IfOk-weaker}
use Rattle.clap.specs.Words.{Shape, app_of, new_app}
use Rattle.clap.specs.Simple.{app_of_fields, on_top}
use Rattle.cborc_words.proofs.cli.command.Goals as goal
use Rattle.cborc_words.proofs.{Builds.adds_subcommand, Simple.free, Simple.simple}

pub returns-clause-grammar : goal.returns-clause-grammar
returns-clause-grammar c =
    let about : app_of c.about.result ≡ new_app (codes "cborc") = ap app_of_fields c.about.ensures ∙ c.new.ensures.app in
    let version = ap app_of_fields c.version.ensures ∙ ap (on_top (λ (s : Shape). record s { has_version = true })) about in
    let long_version = ap app_of_fields c.long_version.ensures ∙ ap (on_top (λ (s : Shape). record s { has_long_version = true })) version in
    let after_help = ap app_of_fields c.after_help.ensures ∙ long_version in
    let empty = ap app_of_fields c.subcommand_required.ensures ∙ ap (on_top (λ (s : Shape). record s { subcommand_required = true })) after_help in
    let of_show = c.in_ok-show.ensures in
    let one = adds_subcommand _ _ _ _ _ c.in_ok-subcommand.ensures empty of_show.1 refl in
    let of_events = c.in_ok-events.ensures in
    let two = adds_subcommand _ _ _ _ _ c.in_ok-subcommand-2.ensures one of_events.1 refl in
    let of_check = c.in_ok-check.ensures in
    let three = adds_subcommand _ _ _ _ _ c.in_ok-subcommand-3.ensures two of_check.2 refl in
    let of_canon = c.in_ok-canon.ensures in
    let four = adds_subcommand _ _ _ _ _ c.in_ok-subcommand-4.ensures three of_canon.2 refl in
    let of_compare = c.in_ok-compare.ensures in
    IfOk-weaker c.subcommand-5.result _ _ (λ r h. record {
      of_show = of_show.0;
      of_events = of_events.0;
      of_check = (of_check.0, of_check.1);
      of_canon = (of_canon.0, of_canon.1);
      of_compare = of_compare.0;
      is = adds_subcommand _ _ _ _ _ h four of_compare.1 refl;
    }) c.subcommand-5.ensures

pub returns-clause-simple : goal.returns-clause-simple
returns-clause-simple c = IfOk-weaker c.subcommand-5.result _ _ (λ r grammar. simple (app_of r) grammar) (returns-clause-grammar c)

pub returns-clause-free : goal.returns-clause-free
returns-clause-free c = IfOk-weaker c.subcommand-5.result _ _ (λ r grammar. free (app_of r) grammar) (returns-clause-grammar c)
