-- What a request leaves, by the verbosity in which it is reported.
use Rattle.std.specs.Prelude.{ℕ, ◌≡◌, ◌⊎◌, Bool, true, false, List, Option, None}
use Rattle.std.specs.Io.KnownBytes.{Keeps}
use Rattle.cborc_files.specs.Folder.{Files, is_stream, KeepsFiles}
use Rattle.cborc_words.specs.declared.request.Action.TheVariants.{Canon, Show, Events}
use Rattle.cborc_words.specs.declared.request.{Action.Action, Verbosity.Verbosity, Verbosity.TheVariants.Quiet, Request.Request}
use Rattle.cborc_commands.specs.declared.fault.Fault.TheVariants as faults
use Rattle.cborc_commands.specs.{Fault.fault_status, Fault.status_number, declared.fault.Fault.Fault, declared.status.Status.Status}
use Rattle.cborc_commands.specs.Performed.{IsDone, IsNotDone}

-- after which faults standard output is unchanged: all but its own. `events`, also with `--seq`, and `show --seq` write lines before a refusal or a fault of
-- hex text, as does `canon --seq` to standard output.
abbrev pub IsActionSilent : Action → Bool → Fault → Option (List ℕ) → Option (List ℕ) → Type 0
IsActionSilent (Canon output order) true fault before after = is_stream output.path.now ≡ false → Keeps before after
IsActionSilent (Show style) true fault before after = Unit {0}
IsActionSilent (Events style) _ fault before after = Unit {0}
IsActionSilent _ _ faults.CannotPrint before after = Unit {0}
IsActionSilent _ _ fault before after = Keeps before after

-- the same of a request
abbrev pub IsSilent : Request → Fault → Option (List ℕ) → Option (List ℕ) → Type 0
IsSilent r fault before after = IsActionSilent r.action r.sequence fault before after

-- this status, or 3 if standard output could not be flushed
abbrev pub IsStatus : Status → ℕ → Type 0
IsStatus s status = (status ≡ status_number s) ⊎ (status ≡ 3)

-- what a request leaves: standard output has what is reported, also after the flush
pub data IsFinished (request : Request) (old new : Option Files) (before after : Option (List ℕ)) (status : ℕ) : Type 0 where
  -- it succeeds, with its status
  done : (s : Status) (taken : Option (List ℕ)) → IsDone request old new before taken s → Keeps taken after → IsStatus s status
      → IsFinished request old new before after status
  -- it fails with this fault, which has the status; no file is changed
  stopped : (fault : Fault) (taken : Option (List ℕ)) → IsNotDone request old before taken fault → KeepsFiles old new → IsSilent request fault before taken
      → Keeps taken after → IsStatus (fault_status fault) status → IsFinished request old new before after status

-- the same without reports: standard output gets only canonical bytes
abbrev pub IsFinishedQuietlyBy : Action → Request → Option Files → Option Files → Option (List ℕ) → Option (List ℕ) → ℕ → Type 0
IsFinishedQuietlyBy (Canon output order) request old new before after status = IsFinished request old new before after status
IsFinishedQuietlyBy _ request old new before after status = IsFinished request old new None None status × Keeps before after

abbrev pub IsFinishedQuietly : Request → Option Files → Option Files → Option (List ℕ) → Option (List ℕ) → ℕ → Type 0
IsFinishedQuietly request old new before after status = IsFinishedQuietlyBy request.action request old new before after status

-- what a request leaves in this verbosity; an explanation goes to standard error
abbrev pub IsReportedBy : Verbosity → Request → Option Files → Option Files → Option (List ℕ) → Option (List ℕ) → ℕ → Type 0
IsReportedBy Quiet request old new before after status = IsFinishedQuietly request old new before after status
IsReportedBy _ request old new before after status = IsFinished request old new before after status
