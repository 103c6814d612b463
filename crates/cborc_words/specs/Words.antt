-- What the arguments of a command line request, after the program's name, by what clap's model finds with the program's grammar.
use Rattle.std.specs.Prelude.{◌≡◌, List, [], ◌∷◌, Bool, ◌&&◌, ◌||◌, codes, if◌then◌else◌, IfSome, IsSomeAnd, String, map, string_bytes, true}
use Rattle.std.specs.Str.{bytes_eq}
use Rattle.clap.specs.Words.{App, IsAmong, Row, Text, fault_of, subcommand_of}
use Rattle.clap.specs.declared.error.kind.ErrorKind.TheVariants.{ArgumentConflict, MissingSubcommand, ValueValidation}
use Rattle.clap.specs.declared.error.kind.ErrorKind.{ErrorKind}
use Rattle.cborc_words.specs.CommandLine.{files_given, reads_stream_twice, AsksFor, AsksForTask, HasNoByteCount, HasTwoVerbosities, IsComplete}
use Rattle.cborc_words.specs.{declared.request.Task.Task, Cli.IsGrammar}

-- the bytes of each of these words
abbrev pub texts_of : {Z : Type 0} → List (String Z) → List Text
texts_of = map string_bytes

-- whether a subcommand and the next argument request the help of `help`
abbrev pub asks_help_of_help : Text → Text → Bool
asks_help_of_help subcommand flag = bytes_eq subcommand (codes "help") && (bytes_eq flag (codes "--help") || bytes_eq flag (codes "-h"))

-- the arguments that clap parses: those for help, instead of those for the help of `help`
abbrev pub parsed_words : List Text → List Text
parsed_words (name ∷ subcommand ∷ flag ∷ []) = if asks_help_of_help subcommand flag then name ∷ subcommand ∷ [] else name ∷ subcommand ∷ flag ∷ []
parsed_words words = words

-- the arguments have no usage error, and their subcommand with its values requests this task
pub record AskFor (words : List Text) (task : Task) : Type 0 where
  pub app : App
  pub grammar : IsGrammar app
  pub faultless : fault_of app words ≡ []
  pub asks : IsSomeAnd (subcommand_of app words) (λ given. AsksForTask given task)

-- the subcommand would read standard input for two files
pub record ReadsTwice (given : Text × List Row) : Type 0 where
  pub task : Task
  pub asks : AsksFor given task.request
  pub files : map (λ file. file.now) task.files.items ≡ files_given given
  pub twice : reads_stream_twice task ≡ true

-- the arguments have a usage error of this kind; a request for help or for the version counts as one
pub data HasFault (words : List Text) (kind : ErrorKind) : Type 0 where
  -- clap finds it
  found : (app : App) → IsGrammar app → IsAmong kind (fault_of app words) → HasFault words kind
  -- clap finds none, but two options exclude each other
  two_verbosities : (app : App) → IsGrammar app → fault_of app words ≡ [] → IsSomeAnd (subcommand_of app words) (λ given. HasTwoVerbosities given.1)
      → kind ≡ ArgumentConflict → HasFault words kind
  two_streams : (app : App) → IsGrammar app → fault_of app words ≡ [] → IsSomeAnd (subcommand_of app words) ReadsTwice
      → kind ≡ ArgumentConflict → HasFault words kind
  -- clap finds none, but the value of `--bytes` is not a number of bytes
  no_byte_count : (app : App) → IsGrammar app → fault_of app words ≡ [] → IsSomeAnd (subcommand_of app words) (λ given. HasNoByteCount given.1)
      → kind ≡ ValueValidation → HasFault words kind
  -- clap finds none, but a value is missing
  incomplete : (app : App) → IsGrammar app → fault_of app words ≡ []
      → IfSome (subcommand_of app words) (λ given. ¬ HasNoByteCount given.1 × ¬ IsComplete given) → kind ≡ MissingSubcommand → HasFault words kind
