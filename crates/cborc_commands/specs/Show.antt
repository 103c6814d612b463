-- What `show` requires of a file's bytes, and what it writes.
use Rattle.std.specs.Prelude.{ℕ, List, length, Option}
use Rattle.std.specs.Io.KnownBytes.{Keeps}
use Rattle.cbor_head.specs.Prelude.{plain, Value}
use Rattle.theory_verdicts.specs.Readers.{IsReadAs}
use Rattle.cbor_reader.specs.WholeItem.{IsItemRefusal}
use Rattle.cborc_files.specs.Folder.{Files}
use Rattle.cborc_words.specs.declared.request.{TextStyle.TextStyle, Options.Options}
use Rattle.cborc_commands.specs.declared.fault.Fault.TheVariants as faults
use Rattle.cborc_commands.specs.{Input.IsInput, Fault.IsOfInput, NoInput.IsNoInput, declared.fault.Fault.Fault, Texts.GoesInPart, Texts.shown_text}

-- the input at a path is one valid item, and this holds for its text
pub record IsShownOf (text_style : TextStyle) (options : Options) (source : List ℕ) (held : Option Files) (Reported : List ℕ → Type 0) : Type 0 where
  pub input : List ℕ
  pub is : IsInput held source options.hex input
  pub value : Value
  pub whole : IsReadAs options.limits plain input value (length input)
  pub reported : Reported (shown_text text_style value)

-- why its text is not written whole: the input is refused, there is none, or standard output accepted only a part of the text
abbrev pub IsNotShown : TextStyle → Options → List ℕ → Option Files → Option (List ℕ) → Option (List ℕ) → Fault → Type 0
IsNotShown text_style options source held before after (faults.Refused f) =
    (input : List ℕ) × IsInput held source options.hex input × IsItemRefusal options.limits plain input f × IsOfInput f.reason
IsNotShown text_style options source held before after faults.CannotPrint = IsShownOf text_style options source held (GoesInPart before after)
IsNotShown text_style options source held before after fault = IsNoInput held source options.hex fault × Keeps before after
