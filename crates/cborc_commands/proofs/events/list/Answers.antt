use Rattle.std.proofs.lemmas.Result.{err_from_is_err_and}
use Rattle.cborc_commands.proofs.events.list.Goals as goal
use Rattle.cborc_commands.proofs.Listings.{prefix_not_listed}

pub returns-in_err-size-clause-fault : goal.returns-in_err-size-clause-fault
returns-in_err-size-clause-fault g c =
    let p = err_from_is_err_and c.from_residual.result c.from_residual.ensures.1 in
    rw (p.1, p.2) (prefix_not_listed c.args.event_style c.args.limits c.args.bytes.now _ _ _ c.in_err-size.ensures.fault)
