use Rattle.std.proofs.lemmas.Result.{err_from_is_err_and}
use Rattle.cborc_commands.proofs.events_sequence.events_sequence.Goals as goal
use Rattle.cborc_commands.proofs.Stopped.{sequence_not_listed}

pub returns-in_err-write_items-clause-fault : goal.returns-in_err-write_items-clause-fault
returns-in_err-write_items-clause-fault g c =
    let p = err_from_is_err_and c.from_residual.result c.from_residual.ensures.1 in
    rw (p.1, p.2) (sequence_not_listed c.args.event_style c.args.options c.args.source.now (g.F.Folder.held c.args.files.now) _ _ _ c.in_err-write_items.ensures.stopped)
