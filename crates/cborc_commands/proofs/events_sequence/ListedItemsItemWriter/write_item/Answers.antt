use Rattle.std.proofs.Common.{◌++◌, inl, inr}
use Rattle.std.proofs.lemmas.Result.{err_from_is_err_and}
use Rattle.cborc_commands.proofs.SequenceListings.{item_listed, item_not_listed, gap_not_written}
use Rattle.cborc_commands.proofs.events_sequence.ListedItemsItemWriter.write_item.Goals as goal
use Rattle.cborc_commands.proofs.events_sequence.ListedItemsItemWriter.write_item.Goals.{else-goes_on-via-then-goes_on+else-is_undecided, else-goes_on-via-else-goes_on}

pub returns-in_err-write_gap-clause-stopped : goal.returns-in_err-write_gap-clause-stopped
returns-in_err-write_gap-clause-stopped g c =
    let p = err_from_is_err_and c.from_residual.result c.from_residual.ensures.1 in
    rw (p.1, p.2)
    (λ following ends. gap_not_written c.args.self.now.event_style c.args.start c.args.limits (c.args.bytes.now ++ following) _ _ _ c.in_err-write_gap.ensures.fault.0 c.in_err-write_gap.ensures.fault.1 c.in_err-write_gap.ensures.fault.2)

pub returns-in_err-size-clause-stopped : goal.returns-in_err-size-clause-stopped
returns-in_err-size-clause-stopped g c =
    let p = err_from_is_err_and c.from_residual-in_err-size.result c.from_residual-in_err-size.ensures.1 in
    rw (p.1, p.2)
    (λ following ends. item_not_listed c.args.self.now.event_style c.args.start c.args.limits c.args.bytes.now _ _ _ c.in_ok-write_gap.ensures.written following
    (elim c.else-goes_on.branch [
      | else-goes_on-via-then-goes_on+else-is_undecided w ↦ λ f v. inr ((w.is_undecided.ensures.decided w.if-is_undecided.false).within f v)
      | else-goes_on-via-else-goes_on w ↦ λ f v. inl (ends w.if-goes_on.false)
    ])
    _ c.in_err-size.ensures.fault)

pub returns-clause-written : goal.returns-clause-written
returns-clause-written g c =
    item_listed c.args.self.now.event_style c.args.start c.args.limits c.args.bytes.now _ _ _ c.in_ok-write_gap.ensures.written _ c.in_ok-size.ensures.listed
