use Rattle.std.proofs.{Common.refl, lemmas.Option.IfSome_then}
use Rattle.cbor_reader.proofs.view_sink.ViewSinkSink.first_repeat.Goals as goal
use Rattle.cbor_reader.proofs.ViewGiven.{no-repeat, repeat-found}

pub returns : goal.returns
returns c = record {
  none = λ none doubts. no-repeat c.args.self.now (c.first_repeat.ensures.none none refl);
  found = IfSome_then c.first_repeat.result c.first_repeat.ensures.found (λ repeat finds. repeat-found c.args.self.now repeat finds);
}
