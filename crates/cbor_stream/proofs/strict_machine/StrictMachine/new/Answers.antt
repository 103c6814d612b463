use Rattle.std.proofs.Common.{arith}
use Rattle.cbor_head.specs.Prelude.{AreBounds}
use Rattle.cbor_stream.proofs.Starts.{starts_sound, starts_amid, starts_bounds}
use Rattle.cbor_stream.proofs.strict_machine.StrictMachine.new.Goals as goal

pub invariant_of-result : goal.invariant_of-result
invariant_of-result c =
    let within : AreBounds c.args.limits = (omega arith, omega arith) in
    starts_sound c.args.limits c.keys.result c.new.result c.new-2.result c.keys.ensures within c.new.ensures.limits c.new.ensures.starts c.new-2.ensures.none c.new-2.ensures.kept

pub returns-clause-starts : goal.returns-clause-starts
returns-clause-starts c =
    let within : AreBounds c.args.limits = (omega arith, omega arith) in
    starts_amid c.args.limits c.keys.result c.new.result c.new-2.result c.keys.ensures within c.new.ensures.limits c.new.ensures.starts c.new-2.ensures.none c.new-2.ensures.kept

pub returns-clause-limits : goal.returns-clause-limits
returns-clause-limits c =
    let within : AreBounds c.args.limits = (omega arith, omega arith) in
    starts_bounds c.args.limits c.keys.result c.new.result c.new-2.result c.keys.ensures within c.new.ensures.limits c.new.ensures.starts c.new-2.ensures.none c.new-2.ensures.kept
