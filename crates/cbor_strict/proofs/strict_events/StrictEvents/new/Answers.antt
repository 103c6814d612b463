use Rattle.std.proofs.Common.{arith}
use Rattle.cbor_head.specs.Prelude.{AreBounds}
use Rattle.cbor_strict.proofs.StrictReading.{starts_within, starts_strictly, first_bounds}
use Rattle.cbor_strict.proofs.strict_events.StrictEvents.new.Goals as goal

pub invariant_of-result : goal.invariant_of-result
invariant_of-result c =
    let within : AreBounds c.args.limits = (omega arith, omega arith) in
    starts_within c.args.limits c.keys.result c.new.result c.new-2.result c.keys.ensures within c.new.ensures.live c.new.ensures.limits c.new.ensures.starts c.new-2.ensures.none c.new-2.ensures.kept

pub returns-clause-starts : goal.returns-clause-starts
returns-clause-starts c =
    let within : AreBounds c.args.limits = (omega arith, omega arith) in
    starts_strictly c.args.limits c.keys.result c.new.result c.new-2.result c.keys.ensures within c.new.ensures.live c.new.ensures.limits c.new.ensures.starts c.new-2.ensures.none c.new-2.ensures.kept

pub returns-clause-limits : goal.returns-clause-limits
returns-clause-limits c = first_bounds c.args.limits c.keys.result c.new.result c.keys.ensures c.new.ensures.limits
