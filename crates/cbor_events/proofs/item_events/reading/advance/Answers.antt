use Rattle.std.proofs.Common.{take, refl, sym, ◌∙◌}
use Rattle.cbor_machine.proofs.Buffers.{payload-outcome}
use Rattle.cbor_events.proofs.item_events.reading.advance.Goals as goal
use Rattle.cbor_events.proofs.Parts.{none-read}

pub returns-then-not-is_in_payload-clause-returned : goal.returns-then-not-is_in_payload-clause-returned
returns-then-not-is_in_payload-clause-returned g c = λ t ms h.
    c.next_head.ensures.returned (take c.args.held.now c.args.buffer.now) t ms h (sym c.is_in_payload.ensures ∙ c.if-not-is_in_payload.true)

pub returns-clause-returned : goal.returns-clause-returned
returns-clause-returned g c = λ t ms h.
    let m = c.args.machine.now in
    let kept = take c.args.held.now c.args.buffer.now in
    payload-outcome c.next_part-outcome.result _ _ _ _ kept c.next_part-outcome.new.buffer t ms c.piece_len.result h.agrees.inner.shown (sym c.is_in_payload.ensures ∙ c.if-not-is_in_payload.false) c.piece_len.ensures
    (c.next_part-outcome.ensures.returned m _ kept t ms h (none-read _ m t ms h.agrees) refl)
