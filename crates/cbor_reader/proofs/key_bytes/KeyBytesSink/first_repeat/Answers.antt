use Rattle.cbor_parser.proofs.CanonGiven.{none-reported, one-reported}
use Rattle.cbor_reader.proofs.key_bytes.KeyBytesSink.first_repeat.Goals as goal
use Rattle.cbor_reader.proofs.{KeysApart.no-repeat, RepeatsReported.keys-find}

pub returns : goal.returns
returns c = record {
  none = λ none doubts. no-repeat c.args.self.now (none-reported c.first_repeat.result _ _ c.first_repeat.ensures.reported none);
  found = one-reported c.first_repeat.result _ _ _ c.first_repeat.ensures.reported (keys-find c.args.self.now);
}
