use Rattle.cbor_machine.proofs.Reported.{reported-none, reported-more, reported-joined}
use Rattle.cbor_events.proofs.laws.reported_events.Goals as goal

pub returns-clause-none : goal.returns-clause-none
returns-clause-none c = reported-none

pub returns-clause-more : goal.returns-clause-more
returns-clause-more c = reported-more

pub returns-clause-joined : goal.returns-clause-joined
returns-clause-joined c = reported-joined
