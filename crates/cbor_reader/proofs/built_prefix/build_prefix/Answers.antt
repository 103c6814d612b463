use Rattle.std.proofs.Common.{◌∙◌, [], ◌∷◌, ap}
use Rattle.cbor_head.specs.{Prelude.canonical, Prelude.value_of, declared.order.KeyOrder.KeyOrder}
use Rattle.theory_values.specs.Parts.{plain}
use Rattle.cbor_builder.specs.Built.{Built}
use Rattle.cbor_parser.proofs.PrefixStops.{reported_at_start}
use Rattle.cbor_reader.proofs.built_prefix.build_prefix.Goals as goal

pub returns-in-Ok-clause-accepted : goal.returns-in-Ok-clause-accepted
returns-in-Ok-clause-accepted c =
    let h = c.in-Ok.ensures.given in
    let v = value_of h.read.item in
    record {
      read = h.read;
      canonical_is = c.finish.ensures.bytes (canonical c.args.order v) (h.whole.1 ∙ ap (λ (o : KeyOrder). plain (canonical o v) ∷ []) (ap (λ (x : Built). x.order) (c.new-building.ensures ∙ c.new.ensures)));
    }

pub returns-in-Err-clause-refused : goal.returns-in-Err-clause-refused
returns-in-Err-clause-refused c = (reported_at_start c.args.limits c.args.bytes.now c.in-Err.refusal c.in-Err.ensures.given).refused

pub returns-in-Err-clause-no_read : goal.returns-in-Err-clause-no_read
returns-in-Err-clause-no_read c = (reported_at_start c.args.limits c.args.bytes.now c.in-Err.refusal c.in-Err.ensures.given).no_read

pub returns-in-Err-clause-memory : goal.returns-in-Err-clause-memory
returns-in-Err-clause-memory c = (reported_at_start c.args.limits c.args.bytes.now c.in-Err.refusal c.in-Err.ensures.given).memory
