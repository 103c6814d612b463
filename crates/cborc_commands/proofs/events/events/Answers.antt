use Rattle.std.proofs.{Common.inr, KnownBytes.Keeps-refl, lemmas.Result.err_from_is_err_and}
use Rattle.cborc_commands.proofs.events.events.Goals as goal
use Rattle.cborc_commands.proofs.{Results.on_ok, Results.if_err, ItemFaults.listed_of, ItemFaults.not_listed_of}

pub returns-in_err-bytes-clause-fault : goal.returns-in_err-bytes-clause-fault
returns-in_err-bytes-clause-fault g c =
    let p = err_from_is_err_and c.from_residual.result c.from_residual.ensures.1 in
    rw (p.1, p.2) (inr (c.in_err-bytes.ensures.fault, Keeps-refl (g.O.Write.contents c.args.out.now)))

pub returns-clause-listed : goal.returns-clause-listed
returns-clause-listed g c =
    on_ok c.list.result _ _
    (listed_of c.args.options c.args.source.now (g.F.Folder.held c.args.files.now) c.in_ok-bytes.bytes.items c.in_ok-bytes.ensures.prefix c.args.event_style
    (g.O.Write.contents c.args.out.now) (g.O.Write.contents c.list.new.out))
    (rw (c.as_slice.ensures.value) at c.list.ensures.listed)

pub returns-clause-fault : goal.returns-clause-fault
returns-clause-fault g c =
    if_err c.list.result _ _
    (not_listed_of c.args.options c.args.source.now (g.F.Folder.held c.args.files.now) c.in_ok-bytes.bytes.items c.in_ok-bytes.ensures.prefix c.args.event_style
    (g.O.Write.contents c.args.out.now) (g.O.Write.contents c.list.new.out))
    (rw (c.as_slice.ensures.value) at c.list.ensures.fault)
