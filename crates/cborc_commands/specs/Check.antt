-- What `check` requires of a file's bytes.
use Rattle.std.specs.Prelude.{ℕ, ◌≡◌, ◌++◌, List, length, codes, decimal, Option}
use Rattle.cbor_head.specs.Prelude.{Rules, Bounds}
use Rattle.theory_verdicts.specs.Readers.{IsRead}
use Rattle.cbor_reader.specs.WholeItem.{IsItemRefusal}
use Rattle.cborc_files.specs.Folder.{Files}
use Rattle.cborc_words.specs.declared.request.Options.{Options}
use Rattle.cborc_commands.specs.declared.fault.Fault.TheVariants as faults
use Rattle.cborc_commands.specs.{Input.IsInput, Fault.IsOfInput, NoInput.IsNoInput, Texts.GoesInPart, declared.fault.Fault.Fault}

-- the whole input is one item with this number of bytes, which the rules accept within the limits
abbrev pub IsWhole : Bounds → Rules → List ℕ → ℕ → Type 0
IsWhole limits rules input size = IsRead limits rules input size × (size ≡ length input)

-- why the input at a path is not one accepted item: it is refused, or there is none
abbrev pub IsNoWholeInput : Rules → Options → List ℕ → Option Files → Fault → Type 0
IsNoWholeInput rules options source held (faults.Refused f) =
    (input : List ℕ) × IsInput held source options.hex input × IsItemRefusal options.limits rules input f × IsOfInput f.reason
IsNoWholeInput rules options source held fault = IsNoInput held source options.hex fault

-- the line of an accepted item, with its number of bytes
abbrev pub accepted_bytes : ℕ → List ℕ
accepted_bytes size = codes "accepted " ++ decimal size ++ codes " bytes\n"

-- the input at a path is one accepted item, and this holds for its line
pub record IsChecked (rules : Rules) (options : Options) (source : List ℕ) (held : Option Files) (Reported : List ℕ → Type 0) : Type 0 where
  pub input : List ℕ
  pub is : IsInput held source options.hex input
  pub size : ℕ
  pub whole : IsWhole options.limits rules input size
  pub reported : Reported (accepted_bytes size)

-- why its line is not written whole: the input is refused, there is none, or standard output accepted only a part of the line
abbrev pub IsNotChecked : Rules → Options → List ℕ → Option Files → Option (List ℕ) → Option (List ℕ) → Fault → Type 0
IsNotChecked rules options source held before after faults.CannotPrint = IsChecked rules options source held (GoesInPart before after)
IsNotChecked rules options source held before after fault = IsNoWholeInput rules options source held fault
