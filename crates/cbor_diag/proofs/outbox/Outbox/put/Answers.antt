use Rattle.std.proofs.Common.{◌≡◌, ap}
use Rattle.cbor_diag.proofs.outbox.Outbox.put.Goals as goal
use Rattle.cbor_diag.proofs.Putting.{puts-from, where_err}

pub returns : goal.returns
returns g c =
    let s = c.args.self.now in
    let kept : c.try_extend_from_slice.new.self ≡ s.waiting = where_err _ _ c.if-is_ok.false c.is_ok.ensures.value c.try_extend_from_slice.ensures.err in
    puts-from _ _ s _ c.make_space.new.self c.args.bytes.now c.make_space.result (ap (λ w. record { waiting = w; taken = s.taken }) kept) c.make_space.ensures
