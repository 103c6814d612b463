use Rattle.std.proofs.Common.{refl, Some, Ok}
use Rattle.cbor_machine.proofs.Buffers.{head-outcome}
use Rattle.cbor_events.proofs.item_events.reading.next_head.Goals as goal
use Rattle.cbor_events.proofs.Parts.{none-read}

pub returns-in-Reported-clause-returned : goal.returns-in-Reported-clause-returned
returns-in-Reported-clause-returned g c = λ kept t ms h p.
    let m = c.args.machine.now in
    head-outcome (Ok (Some c.in-Reported.event)) _ _ m c.read_part.new.machine kept c.read_part.new.buffer t ms p (c.in-Reported.ensures.returned m _ kept t ms h (none-read _ m t ms h.agrees) refl)

pub returns-in-Stopped-clause-returned : goal.returns-in-Stopped-clause-returned
returns-in-Stopped-clause-returned g c = λ kept t ms h p.
    let m = c.args.machine.now in
    c.in-Stopped.ensures.returned m _ kept t ms h (none-read _ m t ms h.agrees) refl

pub returns-then-not-wants_head-clause-returned : goal.returns-then-not-wants_head-clause-returned
returns-then-not-wants_head-clause-returned g c = λ kept t ms h p.
    let m = c.args.machine.now in
    head-outcome c.next_event.result _ _ m c.next_event.new.machine kept c.next_event.new.buffer t ms p (c.next_event.ensures.returned m _ kept t ms h (none-read _ m t ms h.agrees) refl)

pub returns-in-Open-clause-returned : goal.returns-in-Open-clause-returned
returns-in-Open-clause-returned g c = λ kept t ms h p.
    let m = c.args.machine.now in
    let r = c.in-Open.ensures.returned m _ kept t ms h (none-read _ m t ms h.agrees) refl in
    head-outcome c.next_part.result _ _ m c.next_part.new.machine kept c.next_part.new.buffer t ms p
    (c.next_part.ensures.returned m _ kept t ms h r c.read_part.ensures.limits.depth)
