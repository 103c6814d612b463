use Rattle.std.proofs.Common.{sym, ◌∙◌, append-nil}
use Rattle.cbor_diag.proofs.outbox.Outbox.flush.Goals as goal
use Rattle.cbor_diag.proofs.Putting.{sent-some}

pub returns-in-Err-clause-done : goal.returns-in-Err-clause-done
returns-in-Err-clause-done g c =
    sent-some _ _ c.args.self.now c.as_slice.result.now _ _ (c.as_slice.ensures.value ∙ sym (append-nil c.args.self.now.waiting.items)) (rw c.in-Err.is at c.send-taken.ensures)
