use Rattle.std.proofs.Common.{refl, sym, ap, ◌∙◌}
use Rattle.cbor_strict.proofs.StrictReading.{starts_within, starts_strictly, same_bounds}
use Rattle.cbor_strict.proofs.strict_events.StrictEvents.restart.Goals as goal
use Rattle.cbor_strict.specs.{StrictReader.limits_of, inner.StrictEvents.bounds_of}

pub invariant_of-self : goal.invariant_of-self
invariant_of-self c =
    let e = c.self.inside.events in
    let keys = c.self.inside.keys in
    starts_within (bounds_of e.machine keys) keys c.restart.new.self c.restart-2.new.self refl c.self.invariant.limits c.restart.ensures.live (c.restart.ensures.limits.depth, c.restart.ensures.limits.bytes) c.restart.ensures.starts c.restart-2.ensures.none c.restart-2.ensures.kept

pub returns-clause-starts : goal.returns-clause-starts
returns-clause-starts c =
    let e = c.self.inside.events in
    let keys = c.self.inside.keys in
    starts_strictly (bounds_of e.machine keys) keys c.restart.new.self c.restart-2.new.self refl c.self.invariant.limits c.restart.ensures.live (c.restart.ensures.limits.depth, c.restart.ensures.limits.bytes) c.restart.ensures.starts c.restart-2.ensures.none c.restart-2.ensures.kept

pub returns-clause-limits : goal.returns-clause-limits
returns-clause-limits c = sym (same_bounds c.self.inside.events.machine c.restart.new.self.machine c.self.inside.keys c.restart.ensures.limits) ∙ ap limits_of c.self.view_is
