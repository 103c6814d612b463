use Rattle.cbor_parser.proofs.CanonGiven.{in-container, ends-if, repeats-if}
use Rattle.cbor_parser.proofs.canonical_sink.CanonBuilderSink.end.Goals as goal
use Rattle.cbor_parser.proofs.CanonRepeats.{canon-repeats}

pub end_if_distinct-requires : goal.end_if_distinct-requires
end_if_distinct-requires c = record { container = in-container c.args._is_map c.args.self.now c.requires.full }

pub returns-clause-ends : goal.returns-clause-ends
returns-clause-ends c =
    ends-if _ c.end_if_distinct.result c.args._is_map c.args.self.now c.end_if_distinct.new.self c.end_if_distinct.ensures.distinct c.end_if_distinct.ensures.ended

pub returns-clause-repeats : goal.returns-clause-repeats
returns-clause-repeats c = repeats-if c.end_if_distinct.result _ _ _ (λ repeat h differ. canon-repeats c.args.self.now repeat h differ _ c.args._is_map) c.end_if_distinct.ensures.distinct c.end_if_distinct.ensures.reported
