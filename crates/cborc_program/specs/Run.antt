-- What a run leaves: the files, standard output, and the status.
use Rattle.std.specs.Prelude.{ℕ, ◌≡◌, ◌⊎◌, List, Option}
use Rattle.std.specs.Io.KnownBytes.{Keeps}
use Rattle.clap.specs.declared.error.kind.ErrorKind.TheVariants as kinds
use Rattle.clap.specs.{Words.Text, declared.error.kind.ErrorKind.ErrorKind}
use Rattle.cborc_files.specs.Folder.{Files, KeepsFiles}
use Rattle.cborc_words.specs.{declared.request.Task.Task, Words.AskFor, Words.HasFault}
use Rattle.cborc_program.specs.SeveralFiles.{IsPerformed}

-- the arguments request help or the version
abbrev pub IsHelp : ErrorKind → Type 0
IsHelp kind = (kind ≡ kinds.DisplayHelp) ⊎ (kind ≡ kinds.DisplayVersion)

-- what a run with these arguments leaves
pub data IsRun (words : List Text) (old new : Option Files) (before after : Option (List ℕ)) (status : ℕ) : Type 0 where
  -- they request a task, and it is performed
  task_run : (task : Task) → AskFor words task → IsPerformed task old new before after status
      → IsRun words old new before after status
  -- they request help, which standard output accepts or not
  helped : (kind : ErrorKind) → HasFault words kind → IsHelp kind → KeepsFiles old new → (status ≡ 0) ⊎ (status ≡ 3)
      → IsRun words old new before after status
  -- they have a usage error: nothing is written to standard output, which may still fail
  misused : (kind : ErrorKind) → HasFault words kind → (IsHelp kind → ⊥) → KeepsFiles old new → Keeps before after
      → (status ≡ 2) ⊎ (status ≡ 3) → IsRun words old new before after status
  -- memory was refused, and nothing is written
  starved : KeepsFiles old new → Keeps before after → status ≡ 3 → IsRun words old new before after status
