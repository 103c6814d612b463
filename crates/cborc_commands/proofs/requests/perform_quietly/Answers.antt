use Rattle.std.proofs.KnownBytes.{Keeps-refl}
use Rattle.cborc_commands.proofs.Runs.{finished_so, sunk, reported_canon}
use Rattle.cborc_commands.proofs.requests.perform_quietly.Goals as goal

pub returns-in-Canon : goal.returns-in-Canon
returns-in-Canon g c =
    reported_canon _ _ _ _ _ _ (c.in-Canon.output, c.in-Canon.order, c.in-Canon.is)
    (finished_so c.args.request.now (g.F.Folder.held c.args.files.now) (g.F.Folder.held c.perform_request-ended.new.files)
    (g.O.Write.contents c.args.out.now) (g.O.Write.contents c.perform_request-ended.new.out) (g.O.Write.contents c.flushed.new.out)
    c.flushed.ensures.keeps c.perform_request-ended.result c.flushed.result c.perform_request-ended.ensures.done c.perform_request-ended.ensures.fault
    c.perform_request-ended.ensures.untouched c.perform_request-ended.ensures.silent c.flushed.ensures.end c.end.result c.end.ensures)

pub returns-in_default : goal.returns-in_default
returns-in_default g c =
    sunk c.args.request.now (g.F.Folder.held c.args.files.now) (g.F.Folder.held c.perform_request-ended-in_default.new.files) (g.O.Write.contents c.args.out.now)
    (g.O.Write.contents c.args.out.now) c.end-in_default.result (Keeps-refl _) c.in_default.not-Canon
    c.perform_request-ended-in_default.result c.perform_request-ended-in_default.ensures.done c.perform_request-ended-in_default.ensures.fault c.perform_request-ended-in_default.ensures.untouched c.perform_request-ended-in_default.ensures.silent c.end-in_default.ensures
