use Rattle.cbor_parser.proofs.canonical_sink.CanonBuilderSink.chunk.Goals as goal
use Rattle.cbor_parser.proofs.CanonGiven.{in-string}

pub prefix_bytes-requires-clause-string : goal.prefix_bytes-requires-clause-string
prefix_bytes-requires-clause-string c = in-string c.args._is_key c.args._is_text c.args.self.now c.requires.expected
