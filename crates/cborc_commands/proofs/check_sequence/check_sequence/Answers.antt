use Rattle.std.proofs.lemmas.Result.{err_from_is_err_and}
use Rattle.cborc_commands.proofs.check_sequence.check_sequence.Goals as goal
use Rattle.cborc_commands.{specs.Rules.rules_of, proofs.Stopped.sequence_not_checked}

pub returns-in_err-count-clause-fault : goal.returns-in_err-count-clause-fault
returns-in_err-count-clause-fault g c =
    let p = err_from_is_err_and c.from_residual.result c.from_residual.ensures.1 in
    rw (p.1, p.2) (sequence_not_checked (rules_of c.args.accepted) c.args.options c.args.source.now (g.F.Folder.held c.args.files.now) _ _ _ _ _ c.in_err-count.ensures.stopped)
