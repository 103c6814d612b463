-- Why there is no input.
use Rattle.std.specs.Prelude.{ℕ, ◌≡◌, Bool, List, Option}
use Rattle.cborc_files.specs.Folder.{Files, IsThere, IsMissing}
use Rattle.cborc_commands.specs.declared.fault.Fault.TheVariants as faults
use Rattle.cborc_commands.specs.{Input.IsNotHex, declared.fault.Fault.Fault}

-- Why there is no input: no file exists at the path, the file is not hex text, or it exists and memory was refused. A folder that does not say what it
-- holds, such as the disk, may also have failed.
abbrev pub IsNoInput : Option Files → List ℕ → Bool → Fault → Type 0
IsNoInput held path hex (faults.CannotRead named) = (named.now ≡ path) × IsMissing held path
IsNoInput held path hex (faults.NotHex named) = (named.now ≡ path) × IsNotHex held path hex
IsNoInput held path hex faults.Memory = IsThere held path
IsNoInput held path hex _ = ⊥
