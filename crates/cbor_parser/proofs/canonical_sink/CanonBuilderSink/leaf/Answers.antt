use Rattle.cbor_parser.proofs.CanonGiven.{takes, given, leaf-bytes}
use Rattle.cbor_parser.proofs.canonical_sink.CanonBuilderSink.leaf.Goals as goal

pub leaf-requires-clause-takes : goal.leaf-requires-clause-takes
leaf-requires-clause-takes c = takes c.args._is_key c.args.self.now c.requires.expected

pub returns-clause-given : goal.returns-clause-given
returns-clause-given c = given c.args._is_key _ _ c.args.self.now c.leaf.new.self (λ o. leaf-bytes o c.args.major c.args.number c.requires.kind) c.in_ok-leaf.ensures.given
