-- What `show --seq` requires of a file's bytes, and what it writes (RFC 8742).
use Rattle.std.specs.Prelude.{ℕ, List, flat_map, Option}
use Rattle.std.specs.Io.KnownBytes.{Appends}
use Rattle.cbor_head.specs.Prelude.{plain, Spelling, value_of, refused, IsVerdict}
use Rattle.cbor_head.specs.declared.reason.Refusal.{Refusal}
use Rattle.cbor_reader.specs.Sequence.{IsAccepted}
use Rattle.cborc_files.specs.Folder.{Files}
use Rattle.cborc_words.specs.declared.request.{TextStyle.TextStyle, Options.Options}
use Rattle.cborc_commands.specs.Sequences.{AreAll, GoesOn, IsCutShort, IsTakenSoFar}
use Rattle.cborc_commands.specs.declared.fault.Fault.TheVariants as faults
use Rattle.cborc_commands.specs.{Input.IsInput, NoInput.IsNoInput, Texts.shown_text, declared.fault.Fault.Fault}

-- the text of an item in a layout, and a line feed
abbrev pub item_text : TextStyle → Spelling → List ℕ
item_text text_style item = shown_text text_style (value_of item)

-- the texts of items, one after another
abbrev pub item_texts : TextStyle → List Spelling → List ℕ
item_texts text_style items = flat_map (item_text text_style) items

-- the input at a path is a sequence of valid items, and standard output accepted their texts
pub record IsSequenceShown (text_style : TextStyle) (options : Options) (source : List ℕ) (held : Option Files) (before after : Option (List ℕ)) : Type 0 where
  pub input : List ℕ
  pub is : IsInput held source options.hex input
  pub items : List Spelling
  pub all : AreAll (IsAccepted options.limits plain) options.limits.bytes input items
  pub shown : Appends before after (item_texts text_style items)

-- It is not: after valid items, whose texts standard output accepted, comes a refused one, with this index and this offset.
pub record HasUnshownItem (text_style : TextStyle) (options : Options) (source : List ℕ) (held : Option Files) (before after : Option (List ℕ)) (index start : ℕ) (f : Refusal) : Type 0 where
  pub input : List ℕ
  pub is : IsInput held source options.hex input
  pub items : List Spelling
  pub rest : List ℕ
  pub goes_on : GoesOn (IsAccepted options.limits plain) options.limits.bytes input items rest index start
  pub verdict : IsVerdict options.limits plain rest (refused f)
  pub shown : Appends before after (item_texts text_style items)

-- why it is not shown whole, and what standard output accepted: an item is refused, standard output failed, there is no input, or memory was refused
abbrev pub IsSequenceNotShown : TextStyle → Options → List ℕ → Option Files → Option (List ℕ) → Option (List ℕ) → Fault → Type 0
IsSequenceNotShown text_style options source held before after (faults.RefusedItem index start f) = HasUnshownItem text_style options source held before after index start f
IsSequenceNotShown text_style options source held before after faults.CannotPrint =
    IsCutShort (IsAccepted options.limits plain) (item_text text_style) options source held before after
IsSequenceNotShown text_style options source held before after fault =
    IsNoInput held source options.hex fault × IsTakenSoFar (IsAccepted options.limits plain) (item_text text_style) options source held before after
