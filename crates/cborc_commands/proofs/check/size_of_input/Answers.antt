use Rattle.std.proofs.lemmas.Result.{err_from_is_err_and}
use Rattle.cborc_commands.proofs.ItemFaults.{whole_input, not_whole, no_input}
use Rattle.cborc_commands.proofs.check.size_of_input.Goals as goal
use Rattle.cborc_commands.specs.Rules.{rules_of}

pub returns-in_err-bytes-clause-fault : goal.returns-in_err-bytes-clause-fault
returns-in_err-bytes-clause-fault g c =
    let p = err_from_is_err_and c.from_residual.result c.from_residual.ensures.1 in
    rw (p.1, p.2) (no_input (rules_of c.args.accepted) c.args.options c.args.source.now (g.F.Folder.held c.args.files.now) _ c.in_err-bytes.ensures.fault)

pub returns-in_err-size-clause-fault : goal.returns-in_err-size-clause-fault
returns-in_err-size-clause-fault g c =
    let p = err_from_is_err_and c.from_residual-in_err-size.result c.from_residual-in_err-size.ensures.1 in
    rw (p.1)
    (not_whole (rules_of c.args.accepted) c.args.options c.args.source.now (g.F.Folder.held c.args.files.now) c.in_ok-bytes.bytes.items c.in_ok-bytes.ensures.prefix _
    (rw (c.as_slice.ensures.value) at c.in_err-size.ensures.refused) p.0 p.2)

pub returns-clause-whole : goal.returns-clause-whole
returns-clause-whole g c =
    whole_input (rules_of c.args.accepted) c.args.options c.args.source.now (g.F.Folder.held c.args.files.now) c.in_ok-bytes.bytes.items c.in_ok-bytes.ensures.prefix c.in_ok-size.size
    (rw (c.as_slice.ensures.value) at c.in_ok-size.ensures.whole)
