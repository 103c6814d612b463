use Rattle.std.proofs.{Common.rules, lemmas.Result.err_from_is_err_and}
use Rattle.cborc_commands.proofs.canon_sequence.canon_sequence.Goals as goal
use Rattle.cborc_commands.proofs.Stopped.{all_printed, not_printed}

pub returns-in_err-write_items-clause-fault : goal.returns-in_err-write_items-clause-fault
returns-in_err-write_items-clause-fault g c =
    let p = err_from_is_err_and c.from_residual.result c.from_residual.ensures.1 in
    rw (p.1, p.2)
    (not_printed c.args.order c.args.options c.args.source.now c.args.output (g.F.Folder.held c.args.files.now) _ _ _ (search rules) c.in_err-write_items.ensures.stopped)

pub returns-clause-written : goal.returns-clause-written
returns-clause-written g c =
    all_printed c.args.order c.args.options c.args.source.now c.args.output (g.F.Folder.held c.args.files.now) _ _ _ c.in_ok-write_items.ensures.written _ (search rules)
    c.write_items.ensures.keeps
