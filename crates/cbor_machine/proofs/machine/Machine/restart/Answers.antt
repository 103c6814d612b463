use Rattle.cbor_machine.proofs.machine.Machine.restart.Goals as goal
use Rattle.cbor_machine.proofs.Starting.{starts}

pub returns-clause-starts : goal.returns-clause-starts
returns-clause-starts c = starts c.self.inside.limits _ c.clear.ensures
