-- Where `canon` writes its text.
use Rattle.std.specs.Prelude.{ℕ, ◌≡◌, true, false, List, Option}
use Rattle.std.specs.Io.KnownBytes.{Appends, Keeps}
use Rattle.cborc_files.specs.Folder.{Files, is_stream, KeepsFiles, ReplacesFile}
use Rattle.cborc_commands.specs.declared.fault.Fault.TheVariants as faults
use Rattle.cborc_commands.specs.declared.fault.Fault.{Fault}

-- the text was written: to standard output, and no file was changed; or to the file, and no other file and not standard output was changed
pub data IsPut (path : List ℕ) (old new : Option Files) (before after : Option (List ℕ)) (text : List ℕ) : Type 0 where
  printed : is_stream path ≡ true → Appends before after text → KeepsFiles old new → IsPut path old new before after text
  written : is_stream path ≡ false → ReplacesFile old new path text → Keeps before after → IsPut path old new before after text

-- why it was not: standard output failed, the file was not written, or memory was refused
abbrev pub IsNotPut : List ℕ → Fault → Type 0
IsNotPut path faults.CannotPrint = is_stream path ≡ true
IsNotPut path (faults.CannotWrite named) = (is_stream path ≡ false) × (named.now ≡ path)
IsNotPut path faults.Memory = Unit {0}
IsNotPut path _ = ⊥
