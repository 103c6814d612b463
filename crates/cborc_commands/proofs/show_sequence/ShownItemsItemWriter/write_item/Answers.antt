use Rattle.std.proofs.lemmas.Result.{err_from_is_err_and}
use Rattle.cbor_head.specs.Prelude.{plain}
use Rattle.cbor_reader.specs.Sequence.{IsAccepted}
use Rattle.cborc_commands.proofs.Taken.{item_accepted, written_of, text_not_taken}
use Rattle.cborc_commands.proofs.show_sequence.ShownItemsItemWriter.write_item.Goals as goal
use Rattle.cborc_commands.{proofs.Results.if_err, specs.ShowSequence.item_text, proofs.Further.settled, proofs.Further.item_not_shown}

pub print_prefix-requires : goal.print_prefix-requires
print_prefix-requires g c = (c.in-Ok.size, c.in-Ok.ensures.accepted)

pub returns-in-Err-clause-stopped : goal.returns-in-Err-clause-stopped
returns-in-Err-clause-stopped g c =
    if_err c.unless_cut.result _ _
    (λ fault h following ends.
    item_not_shown c.args.limits c.args.bytes.now following c.in-Err.refusal (settled c.args.goes_on following c.in-Err.refusal ends h.1) fault h.0 c.args.self.now.text_style (g.W.Write.contents c.args.out.now) c.in-Err.ensures.refused)
    c.unless_cut.ensures.fault

pub returns-in_err-print_prefix-in-Ok-clause-stopped : goal.returns-in_err-print_prefix-in-Ok-clause-stopped
returns-in_err-print_prefix-in-Ok-clause-stopped g c =
    let p = err_from_is_err_and c.from_residual.result c.from_residual.ensures.1 in
    let read = c.in-Ok.ensures.accepted in
    rw (p.1, p.2)
    (λ following ends. text_not_taken _ _ _ read c.args.self.now.text_style _ _ following _ (c.in_err-print_prefix-in-Ok.ensures.fault read.item read.verdict))

pub returns-in_ok-print_prefix-in-Ok-clause-written : goal.returns-in_ok-print_prefix-in-Ok-clause-written
returns-in_ok-print_prefix-in-Ok-clause-written g c =
    let read = c.in-Ok.ensures.accepted in
    written_of _ _ _ _ read (IsAccepted c.args.limits plain) (item_text c.args.self.now.text_style) _ _ (item_accepted _ _ _ _ read)
    (c.in_ok-print_prefix-in-Ok.ensures.shown read.item read.verdict)
