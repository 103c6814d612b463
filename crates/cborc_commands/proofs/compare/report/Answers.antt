use Rattle.std.proofs.lemmas.Result.{err_from_is_err_and}
use Rattle.cborc_commands.proofs.compare.report.Goals as goal
use Rattle.cborc_commands.proofs.Unreported.{side_unreported}

pub returns-in_err-same_meaning-clause-fault : goal.returns-in_err-same_meaning-clause-fault
returns-in_err-same_meaning-clause-fault w c =
    let p = err_from_is_err_and c.from_residual.result c.from_residual.ensures.1 in
    rw (p.1) (side_unreported c.args.limits c.args.left.now c.args.right.now _ _ _ _ p.0 c.in_err-same_meaning.ensures.refused p.2)
