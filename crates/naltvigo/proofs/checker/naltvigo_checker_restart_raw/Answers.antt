use Rattle.std.proofs.Common.{◌∙◌}
use Rattle.naltvigo.proofs.checker.naltvigo_checker_restart_raw.Goals as goal
use Rattle.naltvigo.proofs.Checked.{held_so}

pub into_machine-machine-requires : goal.into_machine-machine-requires
into_machine-machine-requires c = rw c.replace.ensures.value c.requires.held

pub returns-clause-restarted : goal.returns-clause-restarted
returns-clause-restarted c = λ _. record {
  was = c.deref_mut.result.now;
  held = held_so _ _ _ _ c.replace.ensures.value c.into_machine-machine.ensures c.deref_mut.ensures.value;
  now = c.restart.new.self;
  holds = c.of.ensures.held;
  agrees = c.restart.ensures.starts;
  limits = c.restart.ensures.limits;
  order_is = c.restart.ensures.order ∙ c.in-Some.ensures.value.0;
  memory = c.restart.ensures.memory;
}
