use Rattle.cborc_commands.proofs.compare.compare.Goals as goal
use Rattle.cborc_commands.proofs.{Results.if_ok, Results.if_err, ItemFaults.compared, ItemFaults.not_compared}

pub returns-clause-reported : goal.returns-clause-reported
returns-clause-reported g c =
    if_ok c.report.result _ _
    (compared c.args.options.now c.args.left.now c.args.right.now (g.F.Folder.held c.args.files.now) (g.F.Folder.held c.read_item.new.files) c.read_item.ensures.keeps
    c.in_ok-first.first.items c.in_ok-second.second.items c.in_ok-first.ensures.prefix c.in_ok-second.ensures.prefix
    (c.valid_items.ensures.verdict c.args.options.now.limits c.in_ok-first.first.items) (c.valid_items.ensures.verdict c.args.options.now.limits c.in_ok-second.second.items)
    (g.O.Write.contents c.args.out.now) (g.O.Write.contents c.report.new.out))
    (rw (c.as_slice.ensures.value, c.as_slice-2.ensures.value) at c.report.ensures.reported)

pub returns-clause-fault : goal.returns-clause-fault
returns-clause-fault g c =
    if_err c.report.result _ _
    (not_compared c.args.options.now c.args.left.now c.args.right.now (g.F.Folder.held c.args.files.now) (g.F.Folder.held c.read_item.new.files) c.read_item.ensures.keeps
    c.in_ok-first.first.items c.in_ok-second.second.items c.in_ok-first.ensures.prefix c.in_ok-second.ensures.prefix
    (c.valid_items.ensures.verdict c.args.options.now.limits c.in_ok-first.first.items) (c.valid_items.ensures.verdict c.args.options.now.limits c.in_ok-second.second.items)
    (g.O.Write.contents c.args.out.now) (g.O.Write.contents c.report.new.out))
    (rw (c.as_slice.ensures.value, c.as_slice-2.ensures.value) at c.report.ensures.fault)
