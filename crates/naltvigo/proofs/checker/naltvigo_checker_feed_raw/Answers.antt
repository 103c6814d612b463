use Rattle.std.proofs.Common.{refl}
use Rattle.naltvigo.proofs.Checked.{checked_so, held_so, part_done, part_refused, part_more}
use Rattle.naltvigo.proofs.checker.naltvigo_checker_feed_raw.Goals as goal

pub into_machine-machine-requires : goal.into_machine-machine-requires
into_machine-machine-requires c = rw c.replace.ensures.value c.requires.held

pub returns-in-Done-clause-checked : goal.returns-in-Done-clause-checked
returns-in-Done-clause-checked c = checked_so _ _ c.args.input.now c.check-step.result.used c.check-step.result.out c.check-step.ensures.used.0 c.check-step.ensures.used.1 c.check-step.ensures.says c.check-step.ensures.limits c.check-step.ensures.order c.check-step.ensures.keys c.check-step.ensures.refused c.check-step.ensures.memory c.check-step.ensures.again c.check-step.ensures.complete _ _ (held_so _ _ _ _ c.replace.ensures.value c.into_machine-machine.ensures c.deref_mut.ensures.value) c.of.ensures.held _ (part_done _ _ _ c.in-Done.is refl, c.check-step.ensures.more)

pub returns-in-Refused-clause-checked : goal.returns-in-Refused-clause-checked
returns-in-Refused-clause-checked c = checked_so _ _ c.args.input.now c.check-step.result.used c.check-step.result.out c.check-step.ensures.used.0 c.check-step.ensures.used.1 c.check-step.ensures.says c.check-step.ensures.limits c.check-step.ensures.order c.check-step.ensures.keys c.check-step.ensures.refused c.check-step.ensures.memory c.check-step.ensures.again c.check-step.ensures.complete _ _ (held_so _ _ _ _ c.replace.ensures.value c.into_machine-machine.ensures c.deref_mut.ensures.value) c.of.ensures.held _ (part_refused _ _ _ c.in-Refused.why c.in-Refused.is c.report.ensures.reported c.report.ensures.refused c.report.ensures.memory c.report.ensures.statuses, c.check-step.ensures.more)

pub returns-in_default-clause-checked : goal.returns-in_default-clause-checked
returns-in_default-clause-checked c = checked_so _ _ c.args.input.now c.check-step.result.used c.check-step.result.out c.check-step.ensures.used.0 c.check-step.ensures.used.1 c.check-step.ensures.says c.check-step.ensures.limits c.check-step.ensures.order c.check-step.ensures.keys c.check-step.ensures.refused c.check-step.ensures.memory c.check-step.ensures.again c.check-step.ensures.complete _ _ (held_so _ _ _ _ c.replace.ensures.value c.into_machine-machine.ensures c.deref_mut.ensures.value) c.of.ensures.held _ (part_more _ _ c.in_default.not-Done c.in_default.not-Refused, c.check-step.ensures.more)
