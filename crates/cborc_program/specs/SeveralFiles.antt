-- What `check` of several files leaves: each is checked in turn, with its name before its line.
use Rattle.std.specs.Prelude.{ℕ, ◌≡◌, ◌⊎◌, ◌++◌, ◌∷◌, ◌==◌, List, [], Option, Some, None, codes, if◌then◌else◌, length, max, nat_lt, slice_get, take}
use Rattle.std.specs.{Borrow.Bor, Io.KnownBytes.Appends}
use Rattle.cborc_files.specs.{Folder.Files, Visible.visible_text}
use Rattle.cborc_words.specs.declared.request.{Accepted.Accepted, Action.Action, Action.TheVariants.Check, Request.Request, Task.Task, Verbosity.Verbosity}
use Rattle.cborc_commands.specs.{Outcome.IsReportedBy, Texts.GoesInPart}

-- the name of a file before its line
abbrev pub label : List ℕ → List ℕ
label path = visible_text path ++ codes ": "

-- the request for one of the files
abbrev pub request_for : Request → Accepted → Bor (List ℕ) → Request
request_for request accepted path = record request { action = Check accepted; source = path }

-- what is written for a file: the label with what its report adds to it, or nothing if that adds nothing
abbrev pub line_of : List ℕ → List ℕ → List ℕ
line_of path text = if length text == length (label path) then [] else text

-- a text is not written, or not whole, or not flushed
abbrev pub IsCutShort : List ℕ → Option (List ℕ) → Option (List ℕ) → Type 0
IsCutShort text before after = GoesInPart before after text ⊎ Appends before after text

-- one file is checked: its report is added to its label, and the status is that of the report
pub record IsNamed (verbosity : Verbosity) (request : Request) (old new : Option Files) (before after : Option (List ℕ)) (status : ℕ) : Type 0 where
  pub text : List ℕ
  pub reported : IsReportedBy verbosity request old new (Some (label request.source.now)) (Some text) status
  pub written : Appends before after (line_of request.source.now text)

-- one file is checked, but standard output failed
pub record IsNotPrinted (verbosity : Verbosity) (request : Request) (old new : Option Files) (before after : Option (List ℕ)) : Type 0 where
  pub text : List ℕ
  pub status : ℕ
  pub reported : IsReportedBy verbosity request old new (Some (label request.source.now)) (Some text) status
  pub written : IsCutShort (line_of request.source.now text) before after

-- a file is not checked, since memory was refused, or standard output failed
abbrev pub IsEnd : Verbosity → Request → Option Files → Option Files → Option (List ℕ) → Option (List ℕ) → Type 0
IsEnd verbosity request old new before after = ((new ≡ old) × (after ≡ before)) ⊎ IsNotPrinted verbosity request old new before after

-- these files are checked in turn, and the status is the worst of all
abbrev pub AreAllChecked : Verbosity → Request → Accepted → List (Bor (List ℕ)) → Option Files → Option Files → Option (List ℕ) → Option (List ℕ) → ℕ → Type 0
AreAllChecked verbosity request accepted [] old new before after status = (new ≡ old) × (after ≡ before) × (status ≡ 0)
AreAllChecked verbosity request accepted (path ∷ paths) old new before after status =
    (files : Option Files) × (taken : Option (List ℕ)) × (own : ℕ) × (others : ℕ)
    × IsNamed verbosity (request_for request accepted path) old files before taken own
    × AreAllChecked verbosity request accepted paths files new taken after others × (status ≡ max own others)

-- these files are checked
pub data AreChecked (verbosity : Verbosity) (request : Request) (accepted : Accepted) (paths : List (Bor (List ℕ))) (old new : Option Files) (before after : Option (List ℕ)) (status : ℕ) : Type 0 where
  -- all of them
  all : AreAllChecked verbosity request accepted paths old new before after status → AreChecked verbosity request accepted paths old new before after status
  -- those before this one, at which the run ends
  ended : (count : ℕ) (path : Bor (List ℕ)) (files : Option Files) (taken : Option (List ℕ)) (worst : ℕ) → slice_get paths count ≡ Some path
      → AreAllChecked verbosity request accepted (take count paths) old files before taken worst
      → IsEnd verbosity (request_for request accepted path) files new taken after → status ≡ 3
      → AreChecked verbosity request accepted paths old new before after status

-- which items an action on these files accepts, if it is `check` of several
abbrev pub several_of : Action → List (Bor (List ℕ)) → Option Accepted
several_of (Check accepted) files = if nat_lt 1 (length files) then Some accepted else None
several_of _ files = None

-- the same of a task
abbrev pub several : Task → Option Accepted
several task = several_of task.request.action task.files.items

-- what a task leaves, for several files or else for one request
abbrev pub IsPerformedBy : Option Accepted → Task → Option Files → Option Files → Option (List ℕ) → Option (List ℕ) → ℕ → Type 0
IsPerformedBy (Some accepted) task old new before after status = AreChecked task.verbosity task.request accepted task.files.items old new before after status
IsPerformedBy None task old new before after status = IsReportedBy task.verbosity task.request old new before after status

abbrev pub IsPerformed : Task → Option Files → Option Files → Option (List ℕ) → Option (List ℕ) → ℕ → Type 0
IsPerformed task old new before after status = IsPerformedBy (several task) task old new before after status
