use Rattle.std.proofs.Common.{refl}
use Rattle.cbor_events.proofs.item_events.key.first_byte.Goals as goal
use Rattle.cbor_events.proofs.{Keys.first-outcome, Keys.first-lost, Parts.none-read}

pub returns-clause-returned : goal.returns-clause-returned
returns-clause-returned g c = λ kept t ms h.
    let m = c.args.machine.now in
    first-outcome c.read_part-part.result _ _ m c.read_part-part.new.machine kept _ t ms c.requires.head (c.read_part-part.ensures.returned m _ kept t ms h (none-read _ m t ms h.agrees) refl)

pub returns-clause-lost : goal.returns-clause-lost
returns-clause-lost g c = λ t ms h. first-lost c.read_part-part.result _ _ c.args.machine.now c.read_part-part.new.machine _ t ms (c.read_part-part.ensures.lost t ms h)
