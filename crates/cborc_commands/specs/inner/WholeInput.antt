-- An input that is one accepted item.
use Rattle.std.specs.Prelude.{ℕ, List, [], Option}
use Rattle.cbor_head.specs.Prelude.{Rules}
use Rattle.cborc_files.specs.Folder.{Files, KeepsFiles}
use Rattle.cborc_words.specs.declared.request.Options.{Options}
use Rattle.cborc_commands.specs.{Check.IsWhole, Check.IsNoWholeInput, Input.IsInput, inner.Parts.PartsView, inner.Parts.IsReadTo, declared.fault.Fault.Fault}

-- the input at a path is one accepted item with this number of bytes
pub record IsWholeInput (rules : Rules) (options : Options) (source : List ℕ) (held : Option Files) (size : ℕ) : Type 0 where
  pub input : List ℕ
  pub is : IsInput held source options.hex input
  pub whole : IsWhole options.limits rules input size

-- the same of the input whose first part was read
abbrev pub IsWholeFrom : Rules → Options → List ℕ → Option Files → PartsView → ℕ → Type 0
IsWholeFrom rules options source now p size =
    (held : Option Files) → KeepsFiles held now → IsReadTo held source options.hex [] p → IsWholeInput rules options source held size

abbrev pub IsNoWholeFrom : Rules → Options → List ℕ → Option Files → PartsView → Fault → Type 0
IsNoWholeFrom rules options source now p fault =
    (held : Option Files) → KeepsFiles held now → IsReadTo held source options.hex [] p → IsNoWholeInput rules options source held fault
