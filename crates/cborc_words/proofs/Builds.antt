-- A command after arguments and subcommands are added.
use Rattle.std.proofs.Common.{◌≡◌, ◌∙◌, ap, ap₂, true}
use Rattle.clap.specs.Words.{AddsArg, AddsSubcommand, App, Rule, Shape, app_of, with_rule, with_subcommand}
use Rattle.clap.{specs.declared.builder.arg.Arg.Arg, specs.declared.builder.command.Command.Command, proofs.SimpleLemmas.plain_fields}
use Rattle.cborc_words.specs.inner.Commands.{HasRule, HasShape}

-- one more argument
pub adds_rule : (old : Command) (arg : Arg) (new : Command) (app : App) (rule : Rule) → AddsArg old arg new → app_of old ≡ app → HasRule rule arg → app_of new ≡ with_rule app rule
adds_rule old arg new app rule adds is has = adds.shape has.1 ∙ ap₂ with_rule is has.0

-- one more subcommand
pub adds_subcommand : (old sub new : Command) (app : App) (shape : Shape) → AddsSubcommand old sub new → app_of old ≡ app → HasShape shape sub → shape.is_plain ≡ true → app_of new ≡ with_subcommand app shape
adds_subcommand old sub new app shape adds is has plain =
    adds.shape (plain_fields sub (ap (λ (a : App). a.top.is_plain) has ∙ plain)).globals ∙ ap₂ with_subcommand is (ap (λ (a : App). a.top) has)
