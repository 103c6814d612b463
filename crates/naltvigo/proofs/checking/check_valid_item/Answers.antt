use Rattle.std.proofs.{Common.arith, lemmas.Grind.common_steps}
use Rattle.cbor_head.specs.declared.order.KeyOrder.TheVariants.{Bytewise}
use Rattle.naltvigo.proofs.checking.check_valid_item.Goals as goal
use Rattle.naltvigo.{proofs.OwnInputs.begins-at, proofs.OwnInputs.own-at, specs.Settings.item_limits}

pub returns-in-Err-clause-checked : goal.returns-in-Err-clause-checked
returns-in-Err-clause-checked c =
    let limits = c.in-Some.limits in
    let given = item_limits c.args.keys c.args.depth c.args.bytes in
    let same = c.in-Some.ensures.value.0 in
    let input = c.args.input.now in
    record {
      accepted = grind (arith, common_steps);
      own = λ a.
          let own = own-at limits given same input a in
          let (s, verdict, _) = (c.own_results_are_strictly_accepted.ensures limits Bytewise input (omega arith)).0 own in
          let (v, begins) = (c.strictly_accepted_prefixes.ensures.accepted limits Bytewise input).0 (s, verdict) in
          let (t, valid, _, _) = (c.inputs_with_results_are_valid_items.ensures.outcome limits Bytewise input input).0 own in
          ((λ e. c.in-Err.ensures.not_accepted (c.report.ensures.refused e) (t, valid)), (λ e. c.in-Err.ensures.own v begins (c.report.ensures.memory e)));
      prefix = λ v begins e. c.in-Err.ensures.own v (begins-at limits given same input v begins) (c.report.ensures.memory e);
      refused = grind (arith, common_steps);
      not_accepted = grind (arith, common_steps);
      no_memory = grind (arith, common_steps);
      bad_limits = grind (arith, common_steps);
      in_range = grind (arith, common_steps);
      statuses = grind (arith, common_steps);
      unreported = grind (arith, common_steps);
    }
