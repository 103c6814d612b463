use Rattle.std.proofs.Common.{rules, ◌∙◌, [], ◌∷◌, refl, ap}
use Rattle.cbor_head.specs.{Prelude.canonical, Prelude.value_of, declared.order.KeyOrder.KeyOrder}
use Rattle.theory_values.specs.Parts.{plain}
use Rattle.cbor_builder.specs.Built.{Built}
use Rattle.cbor_parser.proofs.PrefixStops.{reported_at_start}
use Rattle.cbor_reader.proofs.built_prefix.PrefixBuilder.build.Goals as goal

pub returns-in-Ok : goal.returns-in-Ok
returns-in-Ok c =
    let h = c.in-Ok.ensures.given in
    let v = value_of h.read.item in
    record {
      accepted = record {
        read = h.read;
        canonical_is = c.as_slice.ensures (canonical c.args.order v) (h.whole.1 ∙ ap (λ (o : KeyOrder). plain (canonical o v) ∷ []) (ap (λ (x : Built). x.order) c.clear.ensures));
      };
      refused = tt;
      no_read = tt;
      memory = tt;
      request = tt;
      kept = refl;
    }

pub returns-in-Err : goal.returns-in-Err
returns-in-Err c =
    let reported = reported_at_start c.args.limits c.args.bytes.now c.in-Err.refusal c.in-Err.ensures.given in
    record { accepted = tt; refused = reported.refused; no_read = reported.no_read; memory = reported.memory; request = search rules; kept = tt }
