use Rattle.std.proofs.Common.{refl, ap, ◌∙◌}
use Rattle.cbor_strict.specs.inner.StrictEvents.{bounds_of}
use Rattle.cbor_stream.proofs.Starts.{starts_sound, starts_amid, starts_bounds}
use Rattle.cbor_stream.proofs.strict_machine.StrictMachine.restart.Goals as goal
use Rattle.cbor_stream.specs.StrictMachine.{limits_of}

pub invariant_of-self : goal.invariant_of-self
invariant_of-self c =
    let b = bounds_of c.self.inside.machine c.self.inside.keys in
    starts_sound b c.self.inside.keys c.restart.new.self c.restart-2.new.self refl c.self.invariant.limits c.restart.ensures.limits c.restart.ensures.starts c.restart-2.ensures.none c.restart-2.ensures.kept

pub returns-clause-starts : goal.returns-clause-starts
returns-clause-starts c =
    let b = bounds_of c.self.inside.machine c.self.inside.keys in
    starts_amid b c.self.inside.keys c.restart.new.self c.restart-2.new.self refl c.self.invariant.limits c.restart.ensures.limits c.restart.ensures.starts c.restart-2.ensures.none c.restart-2.ensures.kept

pub returns-clause-limits : goal.returns-clause-limits
returns-clause-limits c =
    let b = bounds_of c.self.inside.machine c.self.inside.keys in
    starts_bounds b c.self.inside.keys c.restart.new.self c.restart-2.new.self refl c.self.invariant.limits c.restart.ensures.limits c.restart.ensures.starts c.restart-2.ensures.none c.restart-2.ensures.kept ∙ ap limits_of c.self.view_is
