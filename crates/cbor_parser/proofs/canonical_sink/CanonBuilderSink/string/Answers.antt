use Rattle.std.proofs.Common.{◌++◌, ◌∙◌, take, sym, ap₂, ℕ, length-take-le}
use Rattle.cbor_head.specs.{Prelude.shortest_head, declared.major.Major.Major}
use Rattle.cbor_parser.proofs.CanonGiven.{takes, given, string-bytes}
use Rattle.cbor_parser.proofs.canonical_sink.CanonBuilderSink.string.Goals as goal

pub prefix_string-requires-clause-takes : goal.prefix_string-requires-clause-takes
prefix_string-requires-clause-takes c = takes c.args._is_key c.args.self.now c.requires.expected

pub returns-clause-given : goal.returns-clause-given
returns-clause-given c =
    let content = take c.args.count c.args.prefix.now in
    given c.args._is_key _ _ c.args.self.now c.prefix_string.new.self
    (λ o. string-bytes o c.args.is_text content ∙ ap₂ (λ (m : Major) (n : ℕ). shortest_head m n ++ content) (sym c.string_type.ensures) (length-take-le c.args.count c.args.prefix.now c.requires.within)) c.in_ok-prefix_string.ensures.given
