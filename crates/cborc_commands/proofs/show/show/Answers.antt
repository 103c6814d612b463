use Rattle.std.proofs.{KnownBytes.Keeps-refl, lemmas.Result.err_from_is_err_and}
use Rattle.cborc_commands.proofs.ItemFaults.{shown_of, unshown, not_shown}
use Rattle.cborc_commands.proofs.show.show.Goals as goal
use Rattle.cborc_commands.proofs.Results.{on_ok, if_err}

pub print_prefix-requires : goal.print_prefix-requires
print_prefix-requires g c = (c.in_ok-size_of_item.field-0, c.in_ok-size_of_item.ensures.whole.0)

pub returns-in_err-size_of_item-clause-fault : goal.returns-in_err-size_of_item-clause-fault
returns-in_err-size_of_item-clause-fault g c =
    let p = err_from_is_err_and c.from_residual-in_err-size_of_item.result c.from_residual-in_err-size_of_item.ensures.1 in
    rw (p.1)
    (not_shown c.args.options c.args.source.now (g.F.Folder.held c.args.files.now) c.in_ok-bytes.bytes.items c.in_ok-bytes.ensures.prefix c.args.text_style _ _ (Keeps-refl (g.O.Write.contents c.args.out.now)) _
    (rw (c.as_slice-prefix.ensures.value) at c.in_err-size_of_item.ensures.refused) p.0 p.2)

pub returns-clause-shown : goal.returns-clause-shown
returns-clause-shown g c =
    on_ok c.print_prefix.result _ _
    (shown_of c.args.options c.args.source.now (g.F.Folder.held c.args.files.now) c.in_ok-bytes.bytes.items c.in_ok-bytes.ensures.prefix c.in_ok-size_of_item.field-0
    (rw (c.as_slice-prefix.ensures.value) at c.in_ok-size_of_item.ensures.whole) c.args.text_style (g.O.Write.contents c.args.out.now) (g.O.Write.contents c.print_prefix.new.out))
    (rw (c.as_slice-prefix.ensures.value) at c.print_prefix.ensures.shown)

pub returns-clause-fault : goal.returns-clause-fault
returns-clause-fault g c =
    if_err c.print_prefix.result _ _
    (unshown c.args.options c.args.source.now (g.F.Folder.held c.args.files.now) c.in_ok-bytes.bytes.items c.in_ok-bytes.ensures.prefix c.in_ok-size_of_item.field-0
    (rw (c.as_slice-prefix.ensures.value) at c.in_ok-size_of_item.ensures.whole) c.args.text_style (g.O.Write.contents c.args.out.now) (g.O.Write.contents c.print_prefix.new.out))
    (rw (c.as_slice-prefix.ensures.value) at c.print_prefix.ensures.fault)
