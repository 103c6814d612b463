use Rattle.cbor_parser.proofs.canonical_sink.CanonBuilderSink.end_string.Goals as goal
use Rattle.cbor_parser.proofs.CanonGiven.{in-string, string-ended}

pub end_string-requires : goal.end_string-requires
end_string-requires c = record { string = in-string c.args._is_key c.args._is_text c.args.self.now c.requires.expected }

pub returns-clause-given : goal.returns-clause-given
returns-clause-given c = string-ended c.args._is_key c.args._is_text c.args.self.now c.end_string.new.self c.in_ok-end_string.ensures.given
