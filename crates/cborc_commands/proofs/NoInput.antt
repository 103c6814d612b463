-- Why there is no input, by an earlier state of the same files.
use Rattle.std.proofs.Common.{List, ℕ, Bool, Option}
use Rattle.cborc_files.specs.Folder.{Files, KeepsFiles}
use Rattle.cborc_commands.specs.declared.fault.Fault.TheVariants as faults
use Rattle.cborc_commands.proofs.Files.{not_hex_before, there_before, missing_before}
use Rattle.cborc_commands.specs.{NoInput.IsNoInput, declared.fault.Fault.Fault}

pub no_input_before : (a b : Option Files) (path : List ℕ) (hex : Bool) (fault : Fault) → KeepsFiles a b → IsNoInput b path hex fault → IsNoInput a path hex fault
no_input_before a b path hex (faults.CannotRead named) k (e, h) = (e, missing_before a b path k h)
no_input_before a b path hex (faults.NotHex named) k (e, h) = (e, not_hex_before a b path hex k h)
no_input_before a b path hex faults.Memory k h = there_before a b path k h
no_input_before a b path hex _ k h = absurd h
