-- What `events --seq` requires of a file's bytes, and what it writes (RFC 8742).
use Rattle.std.specs.Prelude.{ℕ, ◌≡◌, ◌++◌, ◌<◌, nat_lt, if◌then◌else◌, List, [], length, take, codes, Option}
use Rattle.std.specs.Io.KnownBytes.{Appends}
use Rattle.cbor_head.specs.Prelude.{form, Bounds, Spelling, refused, IsVerdict}
use Rattle.cbor_head.specs.declared.reason.Refusal.{Refusal}
use Rattle.cbor_reader.specs.Sequence.{IsAccepted, sequence_bytes}
use Rattle.cborc_files.specs.Folder.{Files}
use Rattle.cborc_words.specs.declared.request.{EventStyle.EventStyle, Options.Options}
use Rattle.cborc_commands.specs.Sequences.{texts_from, StartsWithEach, AreAll, GoesOn, AreFirst}
use Rattle.cborc_commands.specs.EventStyles.{event_lines, AreLines, AreLinesCut}
use Rattle.cborc_commands.specs.declared.fault.Fault.TheVariants as faults
use Rattle.cborc_commands.specs.{Input.IsInput, Input.IsPrefix, NoInput.IsNoInput, declared.fault.Fault.Fault}

-- the empty line before an item at this offset, unless it is the first
abbrev pub gap : ℕ → List ℕ
gap start = if nat_lt 0 start then codes "\n" else []

-- the lines of an item at this offset, after the empty line; their offsets count from the start of the input
abbrev pub item_lines : EventStyle → ℕ → Spelling → List ℕ
item_lines style start item = gap start ++ event_lines style start item

-- the lines of the items of an input, one after another
abbrev pub all_lines : EventStyle → List Spelling → List ℕ
all_lines style items = texts_from (item_lines style) 0 items

-- the form of the item at the start of these bytes, which are at this offset of the input, is refused after these lines
pub record IsFormRefused (style : EventStyle) (start : ℕ) (limits : Bounds) (bytes : List ℕ) (f : Refusal) (shown : List ℕ) : Type 0 where
  pub verdict : IsVerdict limits form bytes (refused f)
  pub so_far : List ℕ
  pub lines : AreLines style start limits.depth (take f.place bytes) so_far
  pub is : shown ≡ gap start ++ so_far

-- standard output accepted these lines of the item at the start of these bytes, which are at this offset of the input, but not all
pub data IsCutOff (style : EventStyle) (start : ℕ) (limits : Bounds) (bytes shown : List ℕ) : Type 0 where
  -- nothing, not even the whole empty line before them
  before_all : 0 < start → shown ≡ [] → IsCutOff style start limits bytes shown
  -- the lines of the events of the first k bytes, without the end of the last line
  within : (k : ℕ) (so_far : List ℕ) → AreLinesCut style start limits.depth (take k bytes) so_far → shown ≡ gap start ++ so_far
      → IsCutOff style start limits bytes shown

-- the lines that it accepted by then: those of the events of the first k bytes, or a part of them
pub data IsListedInPart (style : EventStyle) (start : ℕ) (limits : Bounds) (bytes shown : List ℕ) : Type 0 where
  listed_to : (k : ℕ) (so_far : List ℕ) → AreLines style start limits.depth (take k bytes) so_far → shown ≡ gap start ++ so_far → IsListedInPart style start limits bytes shown
  listed_short : IsCutOff style start limits bytes shown → IsListedInPart style start limits bytes shown

-- the input at a path is a sequence of well-formed items, and standard output accepted their lines
pub record IsSequenceListed (style : EventStyle) (options : Options) (source : List ℕ) (held : Option Files) (before after : Option (List ℕ)) : Type 0 where
  pub input : List ℕ
  pub is : IsInput held source options.hex input
  pub items : List Spelling
  pub all : AreAll (IsAccepted options.limits form) options.limits.bytes input items
  pub listed : Appends before after (all_lines style items)

-- it is not: after well-formed items comes a refused one, with this index and this offset; standard output accepted all lines before it
pub record HasUnlistedItem (style : EventStyle) (options : Options) (source : List ℕ) (held : Option Files) (before after : Option (List ℕ)) (index start : ℕ) (f : Refusal) : Type 0 where
  pub input : List ℕ
  pub is : IsInput held source options.hex input
  pub items : List Spelling
  pub rest : List ℕ
  pub goes_on : GoesOn (IsAccepted options.limits form) options.limits.bytes input items rest index start
  pub shown : List ℕ
  pub refused : IsFormRefused style start options.limits rest f shown
  pub listed : Appends before after (all_lines style items ++ shown)

-- after well-formed items, whose lines standard output accepted, comes one of whose lines it accepted only a part
pub record IsSequenceCutOff (style : EventStyle) (options : Options) (source : List ℕ) (held : Option Files) (before after : Option (List ℕ)) : Type 0 where
  pub input : List ℕ
  pub is : IsInput held source options.hex input
  pub items : List Spelling
  pub rest : List ℕ
  pub index : ℕ
  pub start : ℕ
  pub goes_on : GoesOn (IsAccepted options.limits form) options.limits.bytes input items rest index start
  pub shown : List ℕ
  pub cut : IsCutOff style start options.limits rest shown
  pub listed : Appends before after (all_lines style items ++ shown)

-- what standard output accepted if the input at a path cannot be read, or not to its end
pub data IsListedSoFar (style : EventStyle) (options : Options) (source : List ℕ) (held : Option Files) (before after : Option (List ℕ)) : Type 0 where
  -- the lines of its items before that
  items_listed : (items : List Spelling) → AreFirst (IsAccepted options.limits form) options source held items → Appends before after (all_lines style items)
      → IsListedSoFar style options source held before after
  -- and lines of the next item, before a fault of the hex text was found or memory was refused
  prefix_listed : (prefix : List ℕ) → IsPrefix held source options.hex prefix → (items : List Spelling) (rest : List ℕ)
      → StartsWithEach (IsAccepted options.limits form) prefix items rest → (shown : List ℕ)
      → IsListedInPart style (length (sequence_bytes items)) options.limits rest shown → Appends before after (all_lines style items ++ shown)
      → IsListedSoFar style options source held before after

-- why it is not listed whole, and what standard output accepted: an item is refused, standard output failed, there is no input, or memory was refused
abbrev pub IsSequenceNotListed : EventStyle → Options → List ℕ → Option Files → Option (List ℕ) → Option (List ℕ) → Fault → Type 0
IsSequenceNotListed style options source held before after (faults.RefusedItem index start f) = HasUnlistedItem style options source held before after index start f
IsSequenceNotListed style options source held before after faults.CannotPrint = IsSequenceCutOff style options source held before after
IsSequenceNotListed style options source held before after fault = IsNoInput held source options.hex fault × IsListedSoFar style options source held before after
