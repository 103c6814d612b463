-- The grammar of the command line in clap's model: subcommands and their arguments.
use Rattle.std.specs.Prelude.{◌≡◌, ◌++◌, ◌∷◌, List, [], Some, true, false, codes, map, pos}
use Rattle.std.specs.Borrow.{Bor}
use Rattle.clap.specs.Words.{App, Rule, Shape, Text, new_rule}
use Rattle.clap.specs.declared.builder.value_parser.ValueParser.TheVariants as parser
use Rattle.clap.specs.declared.builder.action.ArgAction.TheVariants.{Append, Set, SetTrue}
use Rattle.clap.specs.{Simple.new_shape, declared.builder.value_parser.ValueParser.ValueParser}
use Rattle.cbor_head.specs.declared.limits.TheConstants.{MAX_DEPTH}

-- the option `--NAME`, without a value
abbrev pub flag : Text → Rule
flag name = record (new_rule name) { long = Some name; action = Some SetTrue }

-- a required argument
abbrev pub file : Text → Rule
file name = record (new_rule name) { action = Some Set; required = true }

-- an argument with the default `-`
abbrev pub input : Text → Rule
input name = record (new_rule name) { action = Some Set; defaults = codes "-" ∷ [] }

-- the same, with one value or more
abbrev pub inputs : Text → Rule
inputs name = record (new_rule name) { action = Some Append; defaults = codes "-" ∷ [] }

-- the option `--NAME VALUE`, with its default
abbrev pub option : Text → Text → ValueParser → Rule
option name default values = record (new_rule name) {
  long = Some name;
  action = Some Set;
  value_names = 1;
  defaults = default ∷ [];
  parser = Some values;
}

-- whether the file is a sequence
abbrev pub sequence : Rule
sequence = flag (codes "seq")

-- the names of a choice, wherever they are stored
abbrev pub Choice : List Text → Type 0
Choice words = (names : Bor (List (Bor Text))) × (map (λ name. name.now) names.now ≡ words)

-- the orders of keys
abbrev pub Orders : Type 0
Orders = Choice (codes "bytewise" ∷ codes "length" ∷ codes "length-first" ∷ [])

-- the kinds of keys
abbrev pub Kinds : Type 0
Kinds = Choice (codes "any" ∷ codes "basic" ∷ [])

-- `--order`, with the default bytewise
abbrev pub order : Orders → Rule
order orders = option (codes "order") (codes "bytewise") (parser.Names orders.0)

-- `--keys`, with the default any
abbrev pub keys : Kinds → Rule
keys kinds = option (codes "keys") (codes "any") (parser.Names kinds.0)

-- `--depth`, with the default 256, up to the maximum
abbrev pub depth : Rule
depth = option (codes "depth") (codes "256") (parser.Signed (pos 0) (pos MAX_DEPTH))

-- `--bytes`, with the default 1048576; its value is checked later
abbrev pub bytes : Rule
bytes = option (codes "bytes") (codes "1048576") parser.String

-- the options of all subcommands
abbrev pub options : Kinds → List Rule
options kinds = depth ∷ bytes ∷ keys kinds ∷ flag (codes "hex") ∷ flag (codes "quiet") ∷ flag (codes "explain") ∷ []

-- a subcommand with these arguments and the options of all
abbrev pub subcommand : Text → List Rule → Kinds → Shape
subcommand name rules kinds = record (new_shape name) { rules = rules ++ options kinds }

-- the subcommand `show`
abbrev pub show : Kinds → Shape
show = subcommand (codes "show") (input (codes "FILE") ∷ flag (codes "indent") ∷ sequence ∷ [])

-- the subcommand `events`
abbrev pub events : Kinds → Shape
events = subcommand (codes "events") (input (codes "FILE") ∷ flag (codes "annotate") ∷ sequence ∷ [])

-- the subcommand `check`
abbrev pub check : Orders → Kinds → Shape
check orders = subcommand (codes "check")
    (inputs (codes "FILE") ∷ flag (codes "strict") ∷ sequence ∷ order orders ∷ [])

-- the subcommand `canon`
abbrev pub canon : Orders → Kinds → Shape
canon orders = subcommand (codes "canon")
    (file (codes "IN") ∷ file (codes "OUT") ∷ flag (codes "hex-out") ∷ sequence ∷ order orders ∷ [])

-- the subcommand `compare`
abbrev pub compare : Kinds → Shape
compare = subcommand (codes "compare") (file (codes "A") ∷ file (codes "B") ∷ [])

-- a command line with these subcommands
abbrev pub grammar : List Shape → App
grammar subcommands = record {
  top = record (new_shape (codes "cborc")) {
    is_leaf = false;
    has_version = true;
    has_long_version = true;
    subcommand_required = true;
  };
  subs = subcommands;
}

-- the program's command line, wherever the names of its choices are stored
pub record IsGrammar (app : App) : Type 0 where
  pub of_show : Kinds
  pub of_events : Kinds
  pub of_check : Orders × Kinds
  pub of_canon : Orders × Kinds
  pub of_compare : Kinds
  pub is : app ≡ grammar (show of_show ∷ events of_events ∷ check of_check.0 of_check.1 ∷ canon of_canon.0 of_canon.1 ∷ compare of_compare ∷ [])
