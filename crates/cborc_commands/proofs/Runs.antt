-- What a run leaves, by how it ends.
use Rattle.std.proofs.Common.{ℕ, ◌≡◌, ◌≢◌, ◌⊎◌, ◌∙◌, ap, inl, inr, refl, sym, subst, List, Option, None, Result, Ok, Err, OnErr, IfOk, IfErr}
use Rattle.std.specs.Io.KnownBytes.{Keeps}
use Rattle.cbor_head.specs.declared.order.KeyOrder.{KeyOrder}
use Rattle.cborc_files.specs.Folder.{Files, KeepsFiles}
use Rattle.cborc_words.specs.declared.request.{Output.Output, Action.Action, Action.TheVariants.Canon, Request.Request}
use Rattle.cborc_commands.specs.declared.fault.Fault.TheVariants as faults
use Rattle.cborc_commands.specs.Outcome.{IsSilent, IsStatus, IsFinished, done, stopped, IsFinishedQuietly, IsFinishedQuietlyBy}
use Rattle.cborc_commands.specs.{Fault.end_status, Fault.status_number, declared.fault.Fault.Fault, declared.status.Status.Status}
use Rattle.cborc_commands.specs.Performed.{IsDone, IsNotDone}

-- the end after standard output was flushed, or could not be flushed
abbrev IsSentOn : Result Status Fault → Result Status Fault → Type 0
IsSentOn ended sent = (sent ≡ ended) ⊎ (sent ≡ Err faults.CannotPrint)

status_sent : (ended sent : Result Status Fault) → IsSentOn ended sent → (status : ℕ) → status ≡ status_number (end_status sent) → IsStatus (end_status ended) status
status_sent ended sent (inl e) status is = inl (is ∙ ap (λ (r : Result Status Fault). status_number (end_status r)) e)
status_sent ended sent (inr e) status is = inr (is ∙ ap (λ (r : Result Status Fault). status_number (end_status r)) e)

module _ (request : Request) (old new : Option Files) (before taken after : Option (List ℕ)) (keeps : Keeps taken after) where
  pub finished_so : (ended sent : Result Status Fault) → IfOk ended (IsDone request old new before taken) → IfErr ended (IsNotDone request old before taken)
      → OnErr ended (KeepsFiles old new) → IfErr ended (λ fault. IsSilent request fault before taken) → IsSentOn ended sent
      → (status : ℕ) → status ≡ status_number (end_status sent) → IsFinished request old new before after status
  finished_so (Ok s) sent d n k q e status is = done s taken d keeps (status_sent (Ok s) sent e status is)
  finished_so (Err fault) sent d n k q e status is = stopped fault taken n k q keeps (status_sent (Err fault) sent e status is)

-- requests without reports, except `canon`
module _ (request : Request) (old new : Option Files) (before after : Option (List ℕ)) (status : ℕ) where
  pub quietly : Keeps before after → (action : Action) → ((output : Output) (order : KeyOrder) → action ≢ Canon output order)
      → IsFinished request old new None None status → IsFinishedQuietlyBy action request old new before after status
  quietly keeps (Canon output order) other h = absurd (other output order refl)
  quietly keeps _ other h = (h, keeps)

  -- nothing is known about standard output there
  pub sunk : Keeps before after → ((output : Output) (order : KeyOrder) → request.action ≢ Canon output order) → (ended : Result Status Fault)
      → IfOk ended (IsDone request old new None None) → IfErr ended (IsNotDone request old None None) → OnErr ended (KeepsFiles old new)
      → IfErr ended (λ fault. IsSilent request fault None None) → status ≡ status_number (end_status ended) → IsFinishedQuietly request old new before after status
  sunk keeps other ended d n k q is =
      quietly keeps request.action other (finished_so request old new None None None tt ended ended d n k q (inl refl) status is)

  -- canonical bytes are written
  pub reported_canon : ((output : Output) × (order : KeyOrder) × (request.action ≡ Canon output order)) → IsFinished request old new before after status
      → IsFinishedQuietly request old new before after status
  reported_canon one h = subst (λ (a : Action). IsFinishedQuietlyBy a request old new before after status) (sym one.2) h
