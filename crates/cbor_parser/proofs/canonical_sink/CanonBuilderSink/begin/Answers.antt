use Rattle.cbor_parser.proofs.canonical_sink.CanonBuilderSink.begin.Goals as goal
use Rattle.cbor_parser.proofs.CanonGiven.{takes, opened}

pub begin-requires-clause-takes : goal.begin-requires-clause-takes
begin-requires-clause-takes c = takes c.args._is_key c.args.self.now c.requires.expected

pub returns-clause-given : goal.returns-clause-given
returns-clause-given c = opened c.args._is_key c.args.major c.args.number c.args.self.now c.begin.new.self c.in_ok-begin.ensures.given
