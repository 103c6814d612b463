use Rattle.std.{proofs.lemmas.Result.err_from_is_err_and, specs.Cow.cow_slice_items}
use Rattle.cborc_commands.proofs.ItemFaults.{canonised, no_text, not_put}
use Rattle.cborc_commands.proofs.canon.canon.Goals as goal
use Rattle.cborc_commands.proofs.Results.{on_ok, if_err}

pub returns-in_err-text-clause-fault : goal.returns-in_err-text-clause-fault
returns-in_err-text-clause-fault g c =
    let p = err_from_is_err_and c.from_residual-in_err-text.result c.from_residual-in_err-text.ensures.1 in
    rw (p.1, p.2)
    (no_text c.args.order c.args.options c.args.source.now c.args.output (g.F.Folder.held c.args.files.now) _ _ c.in_ok-bytes.bytes.items c.in_ok-bytes.ensures.prefix _
    (rw (c.as_slice.ensures.value) at c.in_err-text.ensures.fault))

pub returns-clause-written : goal.returns-clause-written
returns-clause-written g c =
    on_ok c.put.result _ _
    (λ p. canonised c.args.order c.args.options c.args.source.now c.args.output (g.F.Folder.held c.args.files.now) (g.F.Folder.held c.read_item.new.files)
    (g.F.Folder.held c.put.new.files) (g.O.Write.contents c.args.out.now) (g.O.Write.contents c.put.new.out) c.in_ok-bytes.bytes.items (cow_slice_items c.in_ok-text.text)
    c.in_ok-bytes.ensures.prefix (rw (c.as_slice.ensures.value) at c.in_ok-text.ensures.text) c.read_item.ensures.keeps (rw (c.as_slice-2.ensures.value) at p))
    c.put.ensures.put

pub returns-clause-fault : goal.returns-clause-fault
returns-clause-fault g c =
    if_err c.put.result _ _
    (not_put c.args.order c.args.options c.args.source.now c.args.output (g.F.Folder.held c.args.files.now) (g.O.Write.contents c.args.out.now) (g.O.Write.contents c.put.new.out) c.in_ok-bytes.bytes.items (cow_slice_items c.in_ok-text.text)
    c.in_ok-bytes.ensures.prefix (rw (c.as_slice.ensures.value) at c.in_ok-text.ensures.text))
    (rw (c.as_slice-2.ensures.value) at c.put.ensures.fault)
