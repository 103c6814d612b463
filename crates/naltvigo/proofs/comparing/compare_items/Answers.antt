use Rattle.std.proofs.Common.{◌∙◌, ap, arith, subst, sym}
use Rattle.std.proofs.lemmas.Grind.{common_steps}
use Rattle.cbor_head.specs.Prelude.{Bounds}
use Rattle.cbor_reader.specs.WholeItem.{IsWholeItem}
use Rattle.naltvigo.proofs.comparing.compare_items.Goals as goal
use Rattle.naltvigo.proofs.Compared.{named-side, other-values, same-values}
use Rattle.naltvigo.{proofs.OwnInputs.not-own, specs.Comparing.side_number, specs.Settings.item_limits}

pub returns-in-Ok-true-clause-compared : goal.returns-in-Ok-true-clause-compared
returns-in-Ok-true-clause-compared c = record {
  same = grind (arith, common_steps);
  different = grind (arith, common_steps);
  accepted = grind (arith, common_steps);
  values = λ _. same-values c.in-Some.limits (item_limits c.args.keys c.args.depth c.args.bytes) c.args.left.now c.args.right.now c.in-Ok-true.field-0
      (sym c.in-Some.ensures.value.0) c.in-Ok-true.ensures.values c.in-Ok-true.field-0-test;
  other_values = grind (arith, common_steps);
  own = grind (arith, common_steps);
  equal = grind (arith, common_steps);
  refused = grind (arith, common_steps);
  only = grind (arith, common_steps);
  no_memory = grind (arith, common_steps);
  memory_side = grind (arith, common_steps);
  bad_limits = grind (arith, common_steps);
  in_range = grind (arith, common_steps);
  statuses = grind (arith, common_steps);
  unreported = grind (arith, common_steps);
}

pub returns-in-Ok-false-clause-compared : goal.returns-in-Ok-false-clause-compared
returns-in-Ok-false-clause-compared c = record {
  same = grind (arith, common_steps);
  different = grind (arith, common_steps);
  accepted = grind (arith, common_steps);
  values = grind (arith, common_steps);
  other_values = λ _. other-values c.in-Some.limits (item_limits c.args.keys c.args.depth c.args.bytes) c.args.left.now c.args.right.now c.in-Ok-false.field-0
      (sym c.in-Some.ensures.value.0) c.in-Ok-false.ensures.values c.in-Ok-false.field-0-test;
  own = grind (arith, common_steps);
  equal = grind (arith, common_steps);
  refused = grind (arith, common_steps);
  only = grind (arith, common_steps);
  no_memory = grind (arith, common_steps);
  memory_side = grind (arith, common_steps);
  bad_limits = grind (arith, common_steps);
  in_range = grind (arith, common_steps);
  statuses = grind (arith, common_steps);
  unreported = grind (arith, common_steps);
}

pub returns-in-Err-clause-compared : goal.returns-in-Err-clause-compared
returns-in-Err-clause-compared c = record {
  same = grind (arith, common_steps);
  different = grind (arith, common_steps);
  accepted = grind (arith, common_steps);
  values = grind (arith, common_steps);
  other_values = grind (arith, common_steps);
  own = λ _. not-own c.in-Some.limits (item_limits c.args.keys c.args.depth c.args.bytes) c.in-Some.ensures.value.0 c.args.left.now c.args.right.now
      c.in-Err.refused c.side_number.result c.side_number.ensures c.in-Err.ensures.own;
  equal = λ _ same. c.side_number.ensures ∙ ap side_number (c.in-Err.ensures.equal same);
  refused = grind (arith, common_steps);
  only = λ e. subst (λ (b : Bounds). IsWholeItem b c.args.left.now → ¬ IsWholeItem b c.args.right.now)
      c.in-Some.ensures.value.0 (c.in-Err.ensures.only (c.report.ensures.refused e));
  no_memory = grind (arith, common_steps);
  memory_side = λ _. named-side c.in-Some.limits (item_limits c.args.keys c.args.depth c.args.bytes) c.args.left.now c.args.right.now
      c.in-Some.ensures.value.0 c.in-Err.refused c.in-Err.reason c.side_number.result c.side_number.ensures c.in-Err.ensures.refused;
  bad_limits = grind (arith, common_steps);
  in_range = grind (arith, common_steps);
  statuses = grind (arith, common_steps);
  unreported = grind (arith, common_steps);
}
