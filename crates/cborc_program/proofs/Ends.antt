-- What a run leaves if its arguments request nothing.
use Rattle.std.proofs.Common.{◌≡◌, ◌≢◌, ◌⊎◌, ◌∙◌, ℕ, List, Option, None, Some, Result, Err, inl, inr, ap}
use Rattle.std.specs.Io.KnownBytes.{Keeps}
use Rattle.clap.specs.{Words.Text, declared.error.kind.ErrorKind.ErrorKind, declared.error.kind.ErrorKind.TheVariants.OutOfMemory}
use Rattle.cborc_files.specs.Folder.{Files, KeepsFiles}
use Rattle.cborc_words.specs.Words.{HasFault}
use Rattle.cborc_commands.specs.{Fault.end_status, Fault.status_number, declared.fault.Fault.Fault, declared.fault.Fault.TheVariants.CannotPrint}
use Rattle.cborc_commands.specs.declared.status.Status.{Status}
use Rattle.cborc_program.specs.Run.{IsRun, helped, misused, starved}
use Rattle.cborc_program.specs.inner.WordsEnd.{IsWordsEnd}

keeps_on : (a b c : Option (List ℕ)) → Keeps a b → Keeps b c → Keeps a c
keeps_on None b c h k = tt
keeps_on (Some xs) None c h k = absurd h
keeps_on (Some xs) (Some ys) None h k = absurd k
keeps_on (Some xs) (Some ys) (Some zs) h k = k ∙ h

abbrev number : Result Status Fault → ℕ
number ended = status_number (end_status ended)

pub ends : (words : List Text) (kind : ErrorKind) (ended sent : Result Status Fault) (old new : Option Files) (before middle after : Option (List ℕ)) (status : ℕ)
    → (kind ≢ OutOfMemory → HasFault words kind) → IsWordsEnd kind ended before middle → (sent ≡ ended) ⊎ (sent ≡ Err CannotPrint) → KeepsFiles old new
    → Keeps middle after → status ≡ number sent → IsRun words old new before after status
ends words kind ended sent old new before middle after status fault (inl (e, known, other, kept)) (inl s) files keeps n =
    misused kind (fault known) other files (keeps_on before middle after kept keeps) (inl (n ∙ ap number (s ∙ e)))
ends words kind ended sent old new before middle after status fault (inl (e, known, other, kept)) (inr s) files keeps n =
    misused kind (fault known) other files (keeps_on before middle after kept keeps) (inr (n ∙ ap number s))
ends words kind ended sent old new before middle after status fault (inr (inl (inl e, known, help))) (inl s) files keeps n =
    helped kind (fault known) help files (inl (n ∙ ap number (s ∙ e)))
ends words kind ended sent old new before middle after status fault (inr (inl (inr e, known, help))) (inl s) files keeps n =
    helped kind (fault known) help files (inr (n ∙ ap number (s ∙ e)))
ends words kind ended sent old new before middle after status fault (inr (inl (e, known, help))) (inr s) files keeps n =
    helped kind (fault known) help files (inr (n ∙ ap number s))
ends words kind ended sent old new before middle after status fault (inr (inr (e, known, kept))) (inl s) files keeps n =
    starved files (keeps_on before middle after kept keeps) (n ∙ ap number (s ∙ e))
ends words kind ended sent old new before middle after status fault (inr (inr (e, known, kept))) (inr s) files keeps n =
    starved files (keeps_on before middle after kept keeps) (n ∙ ap number s)
