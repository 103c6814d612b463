use Rattle.cbor_machine.proofs.machine.Machine.new.Goals as goal
use Rattle.cbor_machine.proofs.Starting.{starts}

pub returns-clause-starts : goal.returns-clause-starts
returns-clause-starts c = starts c.args.limits _ c.new.ensures
