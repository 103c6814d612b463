use Rattle.std.proofs.Common.{◌≡◌, ap, ◌∙◌, []}
use Rattle.std.proofs.lemmas.Result.{err_from_is_err_and}
use Rattle.cbor_diag.proofs.Putting.{sends-past, stops-more, where_err}
use Rattle.cbor_diag.proofs.outbox.Outbox.make_space.Goals as goal

pub returns-in_err-flush : goal.returns-in_err-flush
returns-in_err-flush g c = rw ((err_from_is_err_and c.from_residual.result c.from_residual.ensures.1).1) (stops-more _ _ c.args.self.now [] c.args.bytes.now _ c.in_err-flush.ensures.done)

pub returns : goal.returns
returns g c =
    let t = c.flush.new.self in
    let still : c.try_extend_from_slice.new.self ≡ t.waiting = where_err _ _ c.if-is_ok.false c.is_ok.ensures.value c.try_extend_from_slice.ensures.err in
    sends-past _ _ _ c.args.self.now t _ c.args.bytes.now _ c.in_ok-flush.ensures.done c.in_ok-flush.ensures.empty (ap (λ w. w.items) still ∙ c.in_ok-flush.ensures.empty) c.send-taken.ensures
