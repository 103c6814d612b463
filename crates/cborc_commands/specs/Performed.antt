-- The result of a request.
use Rattle.std.specs.Prelude.{ℕ, List, Option, Bool, true, false}
use Rattle.std.specs.Io.KnownBytes.{Appends}
use Rattle.cborc_files.specs.Folder.{Files, KeepsFiles}
use Rattle.cborc_words.specs.declared.request.Action.TheVariants.{Check, Canon, Compare, Show, Events}
use Rattle.cborc_words.specs.declared.request.{Action.Action, Options.Options, Request.Request}
use Rattle.cborc_commands.specs.{Put.IsPut, Rules.rules_of, declared.fault.Fault.Fault, declared.status.Status.Status}
use Rattle.cborc_commands.specs.{declared.status.Status.TheVariants.Accepted, Canon.HasText, Canon.IsNotCanonised, Check.IsChecked, Check.IsNotChecked}
use Rattle.cborc_commands.specs.{Compare.AreCompared, Compare.AreNotCompared, Events.IsListedOf, Events.IsNotListedOf, Show.IsShownOf, Show.IsNotShown}
use Rattle.cborc_commands.specs.CanonSequence.{IsSequenceCanonised, IsSequenceNotCanonised}
use Rattle.cborc_commands.specs.CheckSequence.{IsSequenceChecked, IsSequenceNotChecked}
use Rattle.cborc_commands.specs.EventsSequence.{IsSequenceListed, IsSequenceNotListed}
use Rattle.cborc_commands.specs.ShowSequence.{IsSequenceShown, IsSequenceNotShown}

-- what a successful action says about a file, or a sequence in it, by the status; only `canon` changes a file
abbrev pub IsActionDone : Action → Bool → Options → List ℕ → Option Files → Option Files → Option (List ℕ) → Option (List ℕ) → Status → Type 0
IsActionDone (Check accepted) false options source old new before after Accepted =
    IsChecked (rules_of accepted) options source old (Appends before after) × KeepsFiles old new
IsActionDone (Check accepted) true options source old new before after Accepted =
    IsSequenceChecked (rules_of accepted) options source old (Appends before after) × KeepsFiles old new
IsActionDone (Canon output order) false options source old new before after Accepted =
    HasText order options source output.form old (IsPut output.path.now old new before after)
IsActionDone (Canon output order) true options source old new before after Accepted = IsSequenceCanonised order options source output old new before after
IsActionDone (Show style) false options source old new before after Accepted = IsShownOf style options source old (Appends before after) × KeepsFiles old new
IsActionDone (Show style) true options source old new before after Accepted = IsSequenceShown style options source old before after × KeepsFiles old new
IsActionDone (Events style) false options source old new before after Accepted = IsListedOf style options source old before after × KeepsFiles old new
IsActionDone (Events style) true options source old new before after Accepted = IsSequenceListed style options source old before after × KeepsFiles old new
IsActionDone (Compare right) _ options source old new before after status = AreCompared options source right.now old before after status × KeepsFiles old new
IsActionDone _ _ options source old new before after _ = ⊥

-- the same for a request
abbrev pub IsDone : Request → Option Files → Option Files → Option (List ℕ) → Option (List ℕ) → Status → Type 0
IsDone r old new before after status = IsActionDone r.action r.sequence r.options r.source.now old new before after status

-- why an action fails
abbrev pub IsActionNotDone : Action → Bool → Options → List ℕ → Option Files → Option (List ℕ) → Option (List ℕ) → Fault → Type 0
IsActionNotDone (Check accepted) false options source held before after fault = IsNotChecked (rules_of accepted) options source held before after fault
IsActionNotDone (Check accepted) true options source held before after fault = IsSequenceNotChecked (rules_of accepted) options source held before after fault
IsActionNotDone (Canon output order) false options source held before after fault = IsNotCanonised order options source output held before after fault
IsActionNotDone (Canon output order) true options source held before after fault = IsSequenceNotCanonised order options source output held before after fault
IsActionNotDone (Show style) false options source held before after fault = IsNotShown style options source held before after fault
IsActionNotDone (Show style) true options source held before after fault = IsSequenceNotShown style options source held before after fault
IsActionNotDone (Events style) false options source held before after fault = IsNotListedOf style options source held before after fault
IsActionNotDone (Events style) true options source held before after fault = IsSequenceNotListed style options source held before after fault
IsActionNotDone (Compare right) _ options source held before after fault = AreNotCompared options source right.now held before after fault

-- why a request fails
abbrev pub IsNotDone : Request → Option Files → Option (List ℕ) → Option (List ℕ) → Fault → Type 0
IsNotDone r held before after fault = IsActionNotDone r.action r.sequence r.options r.source.now held before after fault
