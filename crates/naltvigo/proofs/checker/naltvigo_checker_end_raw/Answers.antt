use Rattle.std.proofs.Common.{◌∙◌, [], ℕ, refl, ap, subst}
use Rattle.cbor_head.specs.{Prelude.refusal, declared.reason.Reason.TheVariants.Truncated, declared.reason.Refusal.Refusal}
use Rattle.cbor_stream.specs.StrictMachine.{StrictMachineView}
use Rattle.naltvigo.proofs.Checked.{checked_so, held_so, take_none, end_done, end_refused, end_more}
use Rattle.naltvigo.proofs.checker.naltvigo_checker_end_raw.Goals as goal
use Rattle.naltvigo.specs.Reported.{IsReported}

pub into_machine-machine-requires : goal.into_machine-machine-requires
into_machine-machine-requires c = rw c.replace.ensures.value c.requires.held

pub returns-in-Done-clause-checked : goal.returns-in-Done-clause-checked
returns-in-Done-clause-checked c = rw (← take_none c.check-out.result.used) (checked_so _ _ [] c.check-out.result.used c.check-out.result.out c.check-out.ensures.used.0 c.check-out.ensures.used.1 c.check-out.ensures.says c.check-out.ensures.limits c.check-out.ensures.order c.check-out.ensures.keys c.check-out.ensures.refused c.check-out.ensures.memory c.check-out.ensures.again c.check-out.ensures.complete _ _ (held_so _ _ _ _ c.replace.ensures.value c.into_machine-machine.ensures c.deref_mut.ensures.value) c.of.ensures.held _ (end_done _ _ _ _ c.in-Done.is refl))

pub returns-in-Refused-clause-checked : goal.returns-in-Refused-clause-checked
returns-in-Refused-clause-checked c = rw (← take_none c.check-out.result.used) (checked_so _ _ [] c.check-out.result.used c.check-out.result.out c.check-out.ensures.used.0 c.check-out.ensures.used.1 c.check-out.ensures.says c.check-out.ensures.limits c.check-out.ensures.order c.check-out.ensures.keys c.check-out.ensures.refused c.check-out.ensures.memory c.check-out.ensures.again c.check-out.ensures.complete _ _ (held_so _ _ _ _ c.replace.ensures.value c.into_machine-machine.ensures c.deref_mut.ensures.value) c.of.ensures.held _ (end_refused _ _ _ _ c.in-Refused.reason c.in-Refused.is c.report.ensures.reported c.report.ensures.refused c.report.ensures.memory c.report.ensures.statuses))

pub returns-in_default-clause-checked : goal.returns-in_default-clause-checked
returns-in_default-clause-checked c = rw (← take_none c.check-out.result.used) (checked_so _ _ [] c.check-out.result.used c.check-out.result.out c.check-out.ensures.used.0 c.check-out.ensures.used.1 c.check-out.ensures.says c.check-out.ensures.limits c.check-out.ensures.order c.check-out.ensures.keys c.check-out.ensures.refused c.check-out.ensures.memory c.check-out.ensures.again c.check-out.ensures.complete _ _ (held_so _ _ _ _ c.replace.ensures.value c.into_machine-machine.ensures c.deref_mut.ensures.value) c.of.ensures.held _ (end_more _ _ _ c.in_default.not-Done c.in_default.not-Refused (subst (λ (f : Refusal). IsReported f c.reported.result) (c.at.ensures ∙ ap (λ (n : ℕ). refusal Truncated n n) (c.taken-taken.ensures.taken ∙ ap (λ (m : StrictMachineView). m.machine.taken) c.deref.ensures)) c.reported.ensures)))
