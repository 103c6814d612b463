use Rattle.cbor_parser.proofs.canonical_sink.CanonBuilderSink.begin_string.Goals as goal
use Rattle.cbor_parser.proofs.CanonGiven.{takes}

pub begin_string-requires-clause-takes : goal.begin_string-requires-clause-takes
begin_string-requires-clause-takes c = takes c.args._is_key c.args.self.now c.requires.expected
