use Rattle.std.proofs.Common.{◌≡◌, ℕ, List, Option, subst, rules}
use Rattle.cborc_files.specs.Folder.{Files}
use Rattle.cborc_words.specs.declared.request.Request.{Request}
use Rattle.cborc_commands.proofs.requests.perform_explained.Goals as goal
use Rattle.cborc_commands.{specs.Outcome.IsFinished, proofs.Runs.finished_so}

-- the recording folder holds the same files as the folder that it forwards to
as_recorded : (request : Request) (old first last new : Option Files) (before after : Option (List ℕ)) (status : ℕ) → IsFinished request first last before after status → first ≡ old → last ≡ new
    → IsFinished request old new before after status
as_recorded request old first last new before after status reported here there =
    subst (λ (x : Option Files). IsFinished request old x before after status) there (subst (λ (x : Option Files). IsFinished request x last before after status) here reported)

pub returns : goal.returns
returns g c =
    as_recorded c.args.request.now (g.F.Folder.held c.args.files.now) (g.F.Folder.held c.new-memory.result.files.now) (g.F.Folder.held c.perform_request-ended.new.files.files.now) _
    (g.O.Write.contents c.args.out.now) (g.O.Write.contents c.flushed-sent.new.out) c.end_explained.result
    (finished_so c.args.request.now (g.F.Folder.held c.new-memory.result.files.now) (g.F.Folder.held c.perform_request-ended.new.files.files.now)
    (g.O.Write.contents c.args.out.now) (g.O.Write.contents c.perform_request-ended.new.out) (g.O.Write.contents c.flushed-sent.new.out) c.flushed-sent.ensures.keeps
    c.perform_request-ended.result c.flushed-sent.result c.perform_request-ended.ensures.done c.perform_request-ended.ensures.fault c.perform_request-ended.ensures.untouched
    c.perform_request-ended.ensures.silent c.flushed-sent.ensures.end c.end_explained.result c.end_explained.ensures) (search rules) (search rules)
