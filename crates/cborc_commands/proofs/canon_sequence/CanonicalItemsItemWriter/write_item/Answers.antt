use Rattle.std.proofs.Common.{arith}
use Rattle.cborc_commands.proofs.Taken.{canonical_of, cut_text, grown_too_long}
use Rattle.cborc_commands.proofs.canon_sequence.CanonicalItemsItemWriter.write_item.Goals as goal
use Rattle.cborc_commands.proofs.{Results.if_err, Further.settled, Further.uncanonical}

pub returns-in-Err-clause-stopped : goal.returns-in-Err-clause-stopped
returns-in-Err-clause-stopped g c =
    if_err c.unless_cut.result _ _
    (λ fault h following ends.
    uncanonical c.args.limits c.args.bytes.now following c.in-Err.refusal (settled c.args.goes_on following c.in-Err.refusal ends h.1) fault h.0 c.args.self.now.order c.args.self.now.form
    (g.W.Write.contents c.args.out.now) c.in-Err.ensures.refused)
    c.unless_cut.ensures.fault

pub returns-then-canonical-bytes-clause-stopped : goal.returns-then-canonical-bytes-clause-stopped
returns-then-canonical-bytes-clause-stopped g c following ends =
    grown_too_long c.args.limits c.args.self.now.order c.args.bytes.now _ _ c.in-Ok.ensures.accepted (omega (arith, c.if-canonical-bytes.true)) c.args.self.now.form
    (g.W.Write.contents c.args.out.now) following c.at.result c.at.ensures

pub returns-in-Ok-write_whole-clause-written : goal.returns-in-Ok-write_whole-clause-written
returns-in-Ok-write_whole-clause-written g c =
    canonical_of c.args.limits c.args.self.now.order c.args.bytes.now _ _ c.in-Ok.ensures.accepted (omega (arith, c.if-canonical-bytes.false)) c.args.self.now.form _
    c.in-Ok-formed.ensures _ _ (rw (c.as_slice.ensures.value) at c.in-Ok-write_whole.ensures)

pub returns-clause-stopped : goal.returns-clause-stopped
returns-clause-stopped g c following ends =
    let cut = rw (c.as_slice.ensures.value) at c.in-Err-write_whole.ensures in
    cut_text c.args.limits c.args.self.now.order c.args.bytes.now _ _ c.in-Ok.ensures.accepted (omega (arith, c.if-canonical-bytes.false)) c.args.self.now.form _
    c.in-Ok-formed.ensures _ _ following (_, cut.0, cut.1)
