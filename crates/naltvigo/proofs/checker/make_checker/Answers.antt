use Rattle.std.proofs.Common.{◌∙◌, [], arith, sym, ap, subst}
use Rattle.std.proofs.lemmas.Grind.{common_steps}
use Rattle.cbor_stream.specs.StrictMachine.{StrictMachineView, AgreesAmid, limits_of}
use Rattle.naltvigo.proofs.checker.make_checker.Goals as goal

pub returns-in-Ok-clause-made : goal.returns-in-Ok-clause-made
returns-in-Ok-clause-made c = record {
  new = λ _. record {
    machine = c.in-Ok.machine.value;
    holds = c.of.ensures.held;
    agrees = subst (λ (m : StrictMachineView). AgreesAmid m [] []) (sym c.in-Ok.ensures.moved) c.new.ensures.starts;
    limits = ap limits_of c.in-Ok.ensures.moved ∙ c.new.ensures.limits ∙ c.in-Some-limits_of.ensures.value.0;
    order_is = ap (λ (m : StrictMachineView). m.order) c.in-Ok.ensures.moved ∙ c.new.ensures.order ∙ c.in-Some.ensures.value.0;
    memory = ap (λ (m : StrictMachineView). m.refused) c.in-Ok.ensures.moved ∙ c.new.ensures.memory;
  };
  not_null = λ _. c.of.ensures.not_null;
  bad_order = grind (arith, common_steps);
  bad_limits = grind (arith, common_steps);
  in_range = grind (arith, common_steps);
  statuses = grind (arith, common_steps);
  kept = grind (arith, common_steps);
}
