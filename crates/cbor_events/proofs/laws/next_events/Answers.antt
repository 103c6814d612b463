use Rattle.cbor_machine.proofs.Reported.{next-more, next-all}
use Rattle.cbor_events.proofs.laws.next_events.Goals as goal

pub returns-clause-more : goal.returns-clause-more
returns-clause-more c = next-more

pub returns-clause-all : goal.returns-clause-all
returns-clause-all c = next-all
