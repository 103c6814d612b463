-- What a command line requests, by the values that clap found for each argument.
use Rattle.std.specs.Prelude.{ℕ, ◌≡◌, ◌≢◌, ◌≤◌, ◌⊎◌, List, [], Option, Some, None, IsSome, IsSomeAnd, Bool, true, false, ◌&&◌, ◌||◌, codes, if◌then◌else◌, map, nat_lt, option_map, option_and_then, unwrap_or}
use Rattle.std.specs.Str.Parse.{IsNumeral, digits_value, without_leading_plus}
use Rattle.std.specs.{Borrow.Bor, List.count_by, Str.bytes_eq}
use Rattle.clap.specs.Words.{Row, Text, all_of, first_of, one_of}
use Rattle.cbor_head.specs.declared.{keys.Keys.Keys, keys.Keys.TheVariants.Any, keys.Keys.TheVariants.IntegersAndTexts, limits.TheConstants.MAX_DEPTH}
use Rattle.cbor_head.specs.declared.order.KeyOrder.{KeyOrder, TheVariants.Bytewise, TheVariants.LengthFirst}
use Rattle.cborc_files.specs.Folder.{is_stream}
use Rattle.cborc_words.specs.declared.request.Verbosity.TheVariants.{Plain, Explained, Quiet}
use Rattle.cborc_words.specs.declared.request.Action.TheVariants.{Check, Canon, Compare, Show, Events}
use Rattle.cborc_words.specs.{ByteCount.byte_count, ByteCount.IsByteCount, declared.request.Action.Action, declared.request.Accepted.Accepted}
use Rattle.cborc_words.specs.declared.request.{Accepted.TheVariants.Valid, Accepted.TheVariants.Canonical, Form.TheVariants.Raw, Form.TheVariants.Hex}
use Rattle.cborc_words.specs.declared.request.{TextStyle.TextStyle, EventStyle.EventStyle, EventStyle.TheVariants.Listed, EventStyle.TheVariants.Annotated}
use Rattle.cborc_words.specs.declared.request.{TextStyle.TheVariants.OneLine, TextStyle.TheVariants.Indented, Verbosity.Verbosity, Options.Options}
use Rattle.cborc_words.specs.declared.request.{Output.Output, Request.Request, Task.Task}

-- the order of keys with this name
abbrev pub order_named : Text → Option KeyOrder
order_named word = if bytes_eq word (codes "bytewise") then Some Bytewise else if bytes_eq word (codes "length") || bytes_eq word (codes "length-first") then Some LengthFirst else None

-- the order that is given
abbrev pub order_given : List Row → Option KeyOrder
order_given rows = option_and_then order_named (first_of (codes "order") rows)

-- the kinds of keys with this name
abbrev pub keys_named : Text → Option Keys
keys_named word = if bytes_eq word (codes "any") then Some Any else if bytes_eq word (codes "basic") then Some IntegersAndTexts else None

-- the kinds that are given
abbrev pub keys_given : List Row → Option Keys
keys_given rows = option_and_then keys_named (first_of (codes "keys") rows)

-- the number that is given for this option
abbrev pub number_given : Text → List Row → Option ℕ
number_given name rows = option_map (λ text. digits_value 10 (without_leading_plus text)) (one_of name rows)

-- which items are accepted, if an order is given
pub record IsAcceptedOf (rows : List Row) (accepted : Option Accepted) : Type 0 where
  pub some : IsSome (order_given rows) → IsSome accepted
  pub strict : one_of (codes "strict") rows ≡ Some (codes "true") → accepted ≡ option_map Canonical (order_given rows)
  pub valid : one_of (codes "strict") rows ≡ Some (codes "false") → accepted ≡ option_map (λ _. Valid) (order_given rows)

-- how the file is read
pub record IsOptionsOf (rows : List Row) (options : Options) : Type 0 where
  pub depth : number_given (codes "depth") rows ≡ Some options.limits.depth
  pub bytes : IsSomeAnd (first_of (codes "bytes") rows) (λ word. IsByteCount word × (options.limits.bytes ≡ byte_count word))
  pub keys : keys_given rows ≡ Some options.limits.keys
  pub hex : one_of (codes "hex") rows ≡ Some (codes "true") → options.hex ≡ true
  pub raw : one_of (codes "hex") rows ≡ Some (codes "false") → options.hex ≡ false

-- how the text is laid out
pub record IsTextStyleOf (rows : List Row) (text_style : TextStyle) : Type 0 where
  pub indented : one_of (codes "indent") rows ≡ Some (codes "true") → text_style ≡ Indented
  pub one_line : one_of (codes "indent") rows ≡ Some (codes "false") → text_style ≡ OneLine

-- what is written of an event
pub record IsEventStyleOf (rows : List Row) (event_style : EventStyle) : Type 0 where
  pub annotated : one_of (codes "annotate") rows ≡ Some (codes "true") → event_style ≡ Annotated
  pub listed : one_of (codes "annotate") rows ≡ Some (codes "false") → event_style ≡ Listed

-- where canonical bytes are written, and in which form
pub record IsOutputOf (rows : List Row) (output : Output) : Type 0 where
  pub path : first_of (codes "OUT") rows ≡ Some output.path.now
  pub digits : one_of (codes "hex-out") rows ≡ Some (codes "true") → output.form ≡ Hex
  pub bytes : one_of (codes "hex-out") rows ≡ Some (codes "false") → output.form ≡ Raw

-- how the program reports what it finds
pub record IsVerbosityOf (rows : List Row) (verbosity : Verbosity) : Type 0 where
  pub quiet : one_of (codes "quiet") rows ≡ Some (codes "true") → verbosity ≡ Quiet
  pub explained : one_of (codes "quiet") rows ≡ Some (codes "false") → one_of (codes "explain") rows ≡ Some (codes "true") → verbosity ≡ Explained
  pub plain : one_of (codes "quiet") rows ≡ Some (codes "false") → one_of (codes "explain") rows ≡ Some (codes "false") → verbosity ≡ Plain

-- not both `--quiet` and `--explain` are given
abbrev pub HasOneVerbosity : List Row → Type 0
HasOneVerbosity rows = one_of (codes "quiet") rows ≡ Some (codes "true") → one_of (codes "explain") rows ≢ Some (codes "true")

-- both are given
abbrev pub HasTwoVerbosities : List Row → Type 0
HasTwoVerbosities rows =
    (one_of (codes "quiet") rows ≢ None) × (one_of (codes "quiet") rows ≢ Some (codes "false"))
    × (one_of (codes "explain") rows ≢ None) × (one_of (codes "explain") rows ≢ Some (codes "false"))

-- the files that `check` is given, in their order; no other subcommand has such a list
abbrev pub files_given : Text × List Row → List Text
files_given (name, rows) = if bytes_eq name (codes "check") then unwrap_or (all_of (codes "FILE") rows) [] else []

-- whether an action on this file, or on these files, would read standard input twice
abbrev pub reads_twice : Action → List ℕ → List (Bor Text) → Bool
reads_twice (Compare right) source files = is_stream source && is_stream right.now
reads_twice _ source files = nat_lt 1 (count_by (λ file. is_stream file.now) files)

-- whether a task would
abbrev pub reads_stream_twice : Task → Bool
reads_stream_twice task = reads_twice task.request.action task.request.source.now task.files.items

-- whether the file is a sequence of items: `--seq` is given
pub record IsSequenceOf (rows : List Row) (sequence : Bool) : Type 0 where
  pub all : one_of (codes "seq") rows ≡ Some (codes "true") → sequence ≡ true
  pub one : one_of (codes "seq") rows ≡ Some (codes "false") → sequence ≡ false

-- a subcommand with this name and these values requests this action, on this file, as a sequence or not
abbrev pub AsksForAction : Text × List Row → Action → List ℕ → Bool → Type 0
AsksForAction (name, rows) (Check accepted) source sequence =
    (name ≡ codes "check") × (first_of (codes "FILE") rows ≡ Some source) × IsSequenceOf rows sequence × IsAcceptedOf rows (Some accepted)
AsksForAction (name, rows) (Canon output order) source sequence =
    (name ≡ codes "canon") × (first_of (codes "IN") rows ≡ Some source) × IsSequenceOf rows sequence × IsOutputOf rows output × (order_given rows ≡ Some order)
AsksForAction (name, rows) (Compare right) source sequence =
    (name ≡ codes "compare") × (first_of (codes "A") rows ≡ Some source) × (sequence ≡ false) × (first_of (codes "B") rows ≡ Some right.now)
AsksForAction (name, rows) (Show style) source sequence =
    (name ≡ codes "show") × (first_of (codes "FILE") rows ≡ Some source) × IsSequenceOf rows sequence × IsTextStyleOf rows style
AsksForAction (name, rows) (Events style) source sequence =
    (name ≡ codes "events") × (first_of (codes "FILE") rows ≡ Some source) × IsSequenceOf rows sequence × IsEventStyleOf rows style

-- it makes this request
abbrev pub AsksFor : Text × List Row → Request → Type 0
AsksFor (name, rows) r = AsksForAction (name, rows) r.action r.source.now r.sequence × IsOptionsOf rows r.options

-- the text is a number, with this maximum
abbrev pub IsNumber : ℕ → Text → Type 0
IsNumber most text = IsNumeral 10 (without_leading_plus text) × (digits_value 10 (without_leading_plus text) ≤ most)

-- the value of `--bytes` is not a number of bytes
abbrev pub HasNoByteCount : List Row → Type 0
HasNoByteCount rows = IsSomeAnd (first_of (codes "bytes") rows) (λ word. ¬ IsByteCount word)

-- limits are given, with numbers in range
abbrev pub HasLimits : List Row → Type 0
HasLimits rows =
    IsSomeAnd (one_of (codes "depth") rows) (IsNumber MAX_DEPTH) × IsSomeAnd (first_of (codes "bytes") rows) IsByteCount
    × IsSome (keys_given rows)

-- the files of a subcommand with this name are given
abbrev pub HasFiles : Text × List Row → Type 0
HasFiles (name, rows) =
    ((name ≡ codes "check") × IsSome (first_of (codes "FILE") rows))
    ⊎ ((name ≡ codes "show") × IsSome (first_of (codes "FILE") rows))
    ⊎ ((name ≡ codes "events") × IsSome (first_of (codes "FILE") rows))
    ⊎ ((name ≡ codes "canon") × IsSome (first_of (codes "IN") rows) × IsSome (first_of (codes "OUT") rows))
    ⊎ ((name ≡ codes "compare") × IsSome (first_of (codes "A") rows) × IsSome (first_of (codes "B") rows))

-- the order of keys is given, if a subcommand with this name has one
abbrev pub HasOrder : Text × List Row → Type 0
HasOrder (name, rows) = (name ≡ codes "check") ⊎ (name ≡ codes "canon") → IsSome (order_given rows)

-- all values of a subcommand are given
abbrev pub IsComplete : Text × List Row → Type 0
IsComplete (name, rows) = HasFiles (name, rows) × HasOrder (name, rows) × HasLimits rows

-- a subcommand with this name and these values requests this task, which reads standard input at most once, in one verbosity
pub record AsksForTask (given : Text × List Row) (task : Task) : Type 0 where
  pub request : AsksFor given task.request
  pub files : map (λ file. file.now) task.files.items ≡ files_given given
  pub verbosity : IsVerbosityOf given.1 task.verbosity
  pub once : reads_stream_twice task ≡ false
  pub one_verbosity : HasOneVerbosity given.1
