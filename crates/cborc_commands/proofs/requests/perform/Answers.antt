use Rattle.cborc_commands.proofs.requests.perform.Goals as goal
use Rattle.cborc_commands.proofs.Runs.{finished_so}

pub returns-in-Plain : goal.returns-in-Plain
returns-in-Plain g c =
    rw c.in-Plain.is
    (finished_so c.args.request.now (g.F.Folder.held c.args.files.now) (g.F.Folder.held c.perform_request-ended.new.files)
    (g.O.Write.contents c.args.out.now) (g.O.Write.contents c.perform_request-ended.new.out) (g.O.Write.contents c.flushed.new.out)
    c.flushed.ensures.keeps c.perform_request-ended.result c.flushed.result c.perform_request-ended.ensures.done c.perform_request-ended.ensures.fault
    c.perform_request-ended.ensures.untouched c.perform_request-ended.ensures.silent c.flushed.ensures.end c.end.result c.end.ensures)

pub returns-in-Explained : goal.returns-in-Explained
returns-in-Explained g c = rw c.in-Explained.is c.perform_explained.ensures
