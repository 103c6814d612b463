-- How a run ends if its arguments request nothing.
use Rattle.std.specs.Prelude.{ℕ, ◌≡◌, ◌≢◌, ◌⊎◌, List, Option, Result, Ok, Err}
use Rattle.std.specs.Io.KnownBytes.{Keeps}
use Rattle.clap.specs.declared.error.kind.ErrorKind.TheVariants as kinds
use Rattle.clap.specs.declared.error.kind.ErrorKind.{ErrorKind}
use Rattle.cborc_commands.specs.declared.fault.Fault.TheVariants as faults
use Rattle.cborc_commands.specs.declared.{fault.Fault.Fault, status.Status.Status, status.Status.TheVariants.Accepted, status.Status.TheVariants.Misused}
use Rattle.cborc_program.specs.Run.{IsHelp}

-- by the kind of the usage error: with a status or a fault; only help is written to standard output
abbrev pub IsWordsEnd : ErrorKind → Result Status Fault → Option (List ℕ) → Option (List ℕ) → Type 0
IsWordsEnd kind result before after =
    ((result ≡ Ok Misused) × (kind ≢ kinds.OutOfMemory) × (IsHelp kind → ⊥) × Keeps before after)
    ⊎ (((result ≡ Ok Accepted) ⊎ (result ≡ Err faults.CannotPrint)) × (kind ≢ kinds.OutOfMemory) × IsHelp kind)
    ⊎ ((result ≡ Err faults.Memory) × (kind ≡ kinds.OutOfMemory) × Keeps before after)
