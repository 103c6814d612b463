-- What clap finds in the program's arguments, and what these request.
use Rattle.std.proofs.Common.{◌≡◌, ◌≢◌, ◌∙◌, ap, List, [], map, Option, Some, None, true, false, true≢false, inl, inr, subst, sym, IfSome, IsSomeAnd}
use Rattle.std.specs.Borrow.{Bor}
use Rattle.clap.specs.Words.{App, HasKind, HasMatchesOf, Row, Text, fault_of, is_simple, kind_of, subcommand_of, subcommand_rows_of}
use Rattle.clap.specs.declared.error.kind.ErrorKind.TheVariants.{ArgumentConflict, MissingSubcommand, OutOfMemory, ValueValidation}
use Rattle.clap.specs.declared.{error.Error.Error, error.kind.ErrorKind.ErrorKind, parser.matches.ArgMatches.ArgMatches}
use Rattle.cborc_words.specs.CommandLine.{files_given, reads_stream_twice, AsksFor, AsksForTask, HasNoByteCount, HasOneVerbosity, HasTwoVerbosities, IsComplete, IsVerbosityOf}
use Rattle.cborc_words.specs.Words.{AskFor, HasFault, ReadsTwice, found, incomplete, no_byte_count, two_verbosities, two_streams}
use Rattle.cborc_words.specs.{declared.request.Task.Task, Cli.IsGrammar}

rows_found : (app : App) → is_simple app ≡ true → (words : List Text) (m : ArgMatches) → HasMatchesOf app words m → subcommand_rows_of m ≡ subcommand_of app words
rows_found app simple words m has = (has simple).1

-- the usage error that clap finds
pub of_clap : (app : App) → IsGrammar app → (words : List Text) (e : Error) → HasKind (fault_of app words) e → kind_of e ≢ OutOfMemory → HasFault words (kind_of e)
of_clap app grammar words e (inl memory) known = absurd (known memory)
of_clap app grammar words e (inr among) known = found app grammar among

-- the values request this task
abbrev RequestsTask : Task → Text × List Row → Type 0
RequestsTask task given = AsksFor given task.request × IsVerbosityOf given.1 task.verbosity

-- the values give these files
abbrev Gives : Task → Text × List Row → Type 0
Gives task given = map (λ file. file.now) task.files.items ≡ files_given given

pub gives : (rows : Option (Text × List Row)) (task : Task) (files : List (Bor Text)) → IfSome rows (λ given. map (λ file. file.now) files ≡ files_given given)
    → task.files.items ≡ files → IfSome rows (Gives task)
gives None task files h is = tt
gives (Some given) task files h is = ap (map (λ file. file.now)) is ∙ h

asks : (rows : Option (Text × List Row)) (task : Task) → IsSomeAnd rows (RequestsTask task) → IfSome rows (Gives task) → IfSome rows (λ given. HasOneVerbosity given.1)
    → reads_stream_twice task ≡ false → IsSomeAnd rows (λ given. AsksForTask given task)
asks None task h files one once = absurd h
asks (Some given) task h files one once = record { request = h.0; files = files; verbosity = h.1; once = once; one_verbosity = one }

pub asked : (app : App) → IsGrammar app → is_simple app ≡ true → (words : List Text) (m : ArgMatches) (task : Task) → HasMatchesOf app words m → fault_of app words ≡ []
    → IsSomeAnd (subcommand_rows_of m) (RequestsTask task) → IfSome (subcommand_rows_of m) (Gives task) → IfSome (subcommand_rows_of m) (λ given. HasOneVerbosity given.1)
    → reads_stream_twice task ≡ false → AskFor words task
asked app grammar simple words m task has none h files one once = record {
  app = app;
  grammar = grammar;
  faultless = none;
  asks = subst (λ (rows : Option (Text × List Row)). IsSomeAnd rows (λ given. AsksForTask given task)) (rows_found app simple words m has) (asks (subcommand_rows_of m) task h files one once);
}

pub of_two_verbosities : (app : App) → IsGrammar app → is_simple app ≡ true → (words : List Text) (m : ArgMatches) (kind : ErrorKind) → HasMatchesOf app words m → fault_of app words ≡ []
    → IsSomeAnd (subcommand_rows_of m) (λ given. HasTwoVerbosities given.1) → kind ≡ ArgumentConflict → HasFault words kind
of_two_verbosities app grammar simple words m kind has none both is =
    two_verbosities app grammar none (subst (λ (rows : Option (Text × List Row)). IsSomeAnd rows (λ given. HasTwoVerbosities given.1)) (rows_found app simple words m has) both) is

reads : (rows : Option (Text × List Row)) (task : Task) → IsSomeAnd rows (RequestsTask task) → IfSome rows (Gives task) → reads_stream_twice task ≡ true
    → IsSomeAnd rows ReadsTwice
reads None task h files twice = absurd h
reads (Some given) task h files twice = record { task = task; asks = h.0; files = files; twice = twice }

pub of_two_streams : (app : App) → IsGrammar app → is_simple app ≡ true → (words : List Text) (m : ArgMatches) (task : Task) (kind : ErrorKind) → HasMatchesOf app words m
    → fault_of app words ≡ [] → IsSomeAnd (subcommand_rows_of m) (RequestsTask task) → IfSome (subcommand_rows_of m) (Gives task) → reads_stream_twice task ≡ true
    → kind ≡ ArgumentConflict → HasFault words kind
of_two_streams app grammar simple words m task kind has none h files twice is =
    two_streams app grammar none (subst (λ (rows : Option (Text × List Row)). IsSomeAnd rows ReadsTwice) (rows_found app simple words m has) (reads (subcommand_rows_of m) task h files twice)) is

pub of_no_byte_count : (app : App) → IsGrammar app → is_simple app ≡ true → (words : List Text) (m : ArgMatches) (kind : ErrorKind) → HasMatchesOf app words m → fault_of app words ≡ []
    → IsSomeAnd (subcommand_rows_of m) (λ given. HasNoByteCount given.1) → kind ≡ ValueValidation → HasFault words kind
of_no_byte_count app grammar simple words m kind has none given is =
    no_byte_count app grammar none (subst (λ (rows : Option (Text × List Row)). IsSomeAnd rows (λ given. HasNoByteCount given.1)) (rows_found app simple words m has) given) is

lacks : (rows : Option (Text × List Row)) → IfSome rows (λ given. ¬ HasNoByteCount given.1) → IfSome rows (λ given. IsComplete given → false ≡ true)
    → IfSome rows (λ given. ¬ HasNoByteCount given.1 × ¬ IsComplete given)
lacks None count h = tt
lacks (Some given) count h = (count, λ complete. true≢false (sym (h complete)))

pub of_missing : (app : App) → IsGrammar app → is_simple app ≡ true → (words : List Text) (m : ArgMatches) (kind : ErrorKind) → HasMatchesOf app words m → fault_of app words ≡ []
    → IfSome (subcommand_rows_of m) (λ given. ¬ HasNoByteCount given.1) → IfSome (subcommand_rows_of m) (λ given. IsComplete given → false ≡ true)
    → kind ≡ MissingSubcommand → HasFault words kind
of_missing app grammar simple words m kind has none count h is =
    incomplete app grammar none (subst (λ (rows : Option (Text × List Row)). IfSome rows (λ given. ¬ HasNoByteCount given.1 × ¬ IsComplete given)) (rows_found app simple words m has) (lacks (subcommand_rows_of m) count h)) is
