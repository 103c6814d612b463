use Rattle.cbor_parser.proofs.CanonGiven.{none-reported, one-reported, no-repeat}
use Rattle.cbor_parser.proofs.canonical_sink.CanonBuilderSink.first_repeat.Goals as goal
use Rattle.cbor_parser.proofs.CanonRepeats.{canon-finds}

pub returns : goal.returns
returns c = record {
  none = λ none doubts. no-repeat c.args.self.now (none-reported c.first_repeat.result _ _ c.first_repeat.ensures.reported none);
  found = one-reported c.first_repeat.result _ _ _ c.first_repeat.ensures.reported (canon-finds c.args.self.now);
}
