use Rattle.std.proofs.Common.{Option, sym, ◌∙◌, subst}
use Rattle.cborc_words.specs.declared.request.Accepted.{Accepted}
use Rattle.cborc_program.proofs.program.perform_task.Goals as goal
use Rattle.cborc_program.specs.SeveralFiles.{IsPerformedBy}

pub returns-in-Some-clause-performed : goal.returns-in-Some-clause-performed
returns-in-Some-clause-performed g c =
    subst (λ (o : Option Accepted). IsPerformedBy o c.args.task.now (g.F.Folder.held c.args.files.now) (g.F.Folder.held c.check_each.new.files) (g.O.Write.contents c.args.out.now) (g.O.Write.contents c.check_each.new.out) c.check_each.result)
    (sym c.in-Some.is ∙ c.several.ensures) c.check_each.ensures.checked
