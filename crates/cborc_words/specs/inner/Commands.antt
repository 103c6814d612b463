-- Commands while they are built.
use Rattle.std.specs.Prelude.{◌≡◌, List, [], false, fold}
use Rattle.clap.specs.Words.{App, Rule, Shape, app_of, rule_of, with_rule}
use Rattle.clap.specs.declared.builder.{arg.Arg.Arg, command.Command.Command}

-- the command with these arguments added
abbrev pub with_rules : App → List Rule → App
with_rules = fold with_rule

-- the argument is read by this rule
abbrev pub HasRule : Rule → Arg → Type 0
HasRule rule arg = (rule_of arg ≡ rule) × (arg.global ≡ false)

-- the command has this shape, and no subcommand
abbrev pub HasShape : Shape → Command → Type 0
HasShape shape command = app_of command ≡ record { top = shape; subs = [] }
