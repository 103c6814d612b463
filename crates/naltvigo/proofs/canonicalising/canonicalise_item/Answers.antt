use Rattle.std.proofs.Common.{ℕ, ◌≡◌, List, length, take, sym, ap, ◌∙◌, arith}
use Rattle.std.proofs.lemmas.Grind.{common_steps}
use Rattle.cbor_head.specs.{Prelude.Bounds, declared.order.KeyOrder.KeyOrder, declared.reason.Refusal.Refusal}
use Rattle.cbor_reader.{proofs.CanonicaliserRefusals.canonicaliser-reason, specs.Canonicalise.IsCanonicaliserReason, specs.Canonicalise.IsRefusal}
use Rattle.naltvigo.proofs.Given.{given-reports, given-item, given-again, given-none, given-reported}
use Rattle.naltvigo.proofs.canonicalising.canonicalise_item.Goals as goal
use Rattle.naltvigo.specs.Settings.{item_limits, key_order}

in_buffer : (out outcome items : List ℕ) (needed : ℕ) → needed ≡ length outcome → take (length outcome) out ≡ outcome → outcome ≡ items → take needed out ≡ items
in_buffer out outcome items needed n g v = ap (λ k. take k out) n ∙ g ∙ v

pub returns-in-Ok-clause-canonicalised : goal.returns-in-Ok-clause-canonicalised
returns-in-Ok-clause-canonicalised c = record {
  written = grind (arith, common_steps);
  accepted = λ e.
      given-item _ (item_limits c.args.keys c.args.depth c.args.bytes) _ _ c.args.input.now _ _
      (sym c.in-Some-limits_of.ensures.value.0)
      (sym c.in-Some.ensures.value.0) (in_buffer _ _ _ _ c.give.ensures.needed (c.give.ensures.given e).0 c.as_slice.ensures.value) _ (c.give.ensures.needed ∙ ap length c.as_slice.ensures.value)
      ((c.inputs_with_results_are_valid_items.ensures.outcome _ _ c.args.input.now _).0 c.in-Ok.ensures.outcome);
  equal = λ e.
      given-reports _ (item_limits c.args.keys c.args.depth c.args.bytes) _ _ c.args.input.now _ _
      (sym c.in-Some-limits_of.ensures.value.0)
      (sym c.in-Some.ensures.value.0) (in_buffer _ _ _ _ c.give.ensures.needed (c.give.ensures.given e).0 c.as_slice.ensures.value)
      (λ others y b s t k i h j. c.equal_results_of_same_values.ensures c.in-Some-limits_of.limits others c.in-Some.order c.args.input.now y _ b s t (omega arith) k c.in-Ok.ensures.outcome i h j);
  own = grind (arith, common_steps);
  again = λ e.
      given-again _ (item_limits c.args.keys c.args.depth c.args.bytes) _ _ c.args.input.now _ _
      (sym c.in-Some-limits_of.ensures.value.0)
      (sym c.in-Some.ensures.value.0) (in_buffer _ _ _ _ c.give.ensures.needed (c.give.ensures.given e).0 c.as_slice.ensures.value)
      (c.results_are_their_own_results.ensures _ _ c.args.input.now _ (omega arith) c.in-Ok.ensures.outcome);
  space = grind (arith, common_steps);
  too_small = grind (arith, common_steps);
  refused = grind (arith, common_steps);
  reason = grind (arith, common_steps);
  none = grind (arith, common_steps);
  no_memory = grind (arith, common_steps);
  bad_order = grind (arith, common_steps);
  bad_limits = grind (arith, common_steps);
  in_range = grind (arith, common_steps);
  statuses = grind (arith, common_steps);
  kept = grind (arith, common_steps);
  no_count = grind (arith, common_steps);
  unreported = grind (arith, common_steps);
}

pub returns-in-Err-clause-canonicalised : goal.returns-in-Err-clause-canonicalised
returns-in-Err-clause-canonicalised c = record {
  written = grind (arith, common_steps);
  accepted = grind (arith, common_steps);
  equal = grind (arith, common_steps);
  own = grind (arith, common_steps);
  again = grind (arith, common_steps);
  space = grind (arith, common_steps);
  too_small = grind (arith, common_steps);
  refused = λ e.
      given-reported (λ (b : Bounds). IsRefusal b (key_order c.args.order) c.args.input.now) c.in-Some-limits_of.ensures.value.0
      (given-reported (λ (o : KeyOrder). IsRefusal c.in-Some-limits_of.limits o c.args.input.now) c.in-Some.ensures.value.0
      record { why = c.in-Err.reason; holds = c.in-Err.ensures.outcome; not_memory = c.report.ensures.refused e; reported = c.report.ensures.reported });
  reason = λ e.
      given-reported (λ (b : Bounds) (f : Refusal). IsCanonicaliserReason b f.reason) c.in-Some-limits_of.ensures.value.0
      record { why = c.in-Err.reason; holds = canonicaliser-reason _ _ c.args.input.now _ c.in-Err.ensures.outcome; not_memory = c.report.ensures.refused e; reported = c.report.ensures.reported };
  none = λ e.
      given-none _ (item_limits c.args.keys c.args.depth c.args.bytes) _ _ c.args.input.now
      (sym c.in-Some-limits_of.ensures.value.0) (sym c.in-Some.ensures.value.0)
      (c.inputs_with_results_are_valid_items.ensures.refused _ _ c.args.input.now _ c.in-Err.ensures.outcome (c.report.ensures.refused e));
  no_memory = grind (arith, common_steps);
  bad_order = grind (arith, common_steps);
  bad_limits = grind (arith, common_steps);
  in_range = grind (arith, common_steps);
  statuses = grind (arith, common_steps);
  kept = grind (arith, common_steps);
  no_count = grind (arith, common_steps);
  unreported = grind (arith, common_steps);
}
