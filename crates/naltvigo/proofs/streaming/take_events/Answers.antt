use Rattle.std.proofs.Common.{◌∙◌, ◌+◌, refl, inl, inr, subst, ap, arith, rules, drop, sym, take, drop-drop, drop-set-lt}
use Rattle.std.proofs.{Math.Seq.take-add, lemmas.List.take_more_set, lemmas.List.take_rest}
use Rattle.cbor_head.specs.declared.{reason.Refusal.Refusal, event.Event.Event}
use Rattle.cbor_machine.specs.Machine.{IsDone, IsEvent, IsMore}
use Rattle.cbor_machine.specs.declared.step.Out.TheVariants as outs
use Rattle.cbor_machine.specs.declared.step.Out.{Out}
use Rattle.naltvigo.proofs.Staying.{complete-then, done-following, live-following, live-then, not-done, not-more, refused-then, same-refusal, unrefused}
use Rattle.naltvigo.proofs.Reported.{nothing_given, one_given, no_further}
use Rattle.naltvigo.proofs.streaming.take_events.Goals as goal
use Rattle.naltvigo.specs.{Streaming.HasReturned, Streaming.IsReportedEvent, Reported.IsReported}

pub events-init : goal.events-init
events-init c = record {
  used = omega arith;
  reported = omega arith;
  given = nothing_given c.args.machine.now;
  unreported = refl;
  unrefused = refl;
  taken = omega arith;
  progress = omega arith;
  begun = inl (refl, refl, refl);
}

pub events-preserved : goal.events-preserved
events-preserved c =
    let is_returned : HasReturned (outs.Event c.in-Event.next) c.events.machine c.step-step.new.self (take c.step-step.result.used (drop c.events.used c.args.input.now)) =
    subst (λ (o : Out). HasReturned o c.events.machine c.step-step.new.self (take c.step-step.result.used (drop c.events.used c.args.input.now))) c.in-Event.is (rw (take_rest c.args.input.now c.events.used) at c.step-step.ensures.returned) in
    record {
      used = search rules;
      reported = search rules;
      given = rw (take-add c.events.used c.step-step.result.used c.args.input.now, take_more_set c.events.events c.events.reported c.event_of.result c.events-test.true)
          (one_given _ c.events.machine _ _ _ _ _ c.event_of.result c.events.invariant.given c.step-step.ensures.limits is_returned
          (subst (λ (e : Event). IsReportedEvent e c.event_of.result) c.in-Event.next-is c.event_of.ensures));
      unreported = drop-set-lt (c.events.reported + 1) c.events.events c.events.reported c.event_of.result (omega arith)
          ∙ sym (drop-drop 1 c.events.reported c.events.events) ∙ ap (drop 1) c.events.invariant.unreported ∙ drop-drop 1 c.events.reported c.args.events.now;
      unrefused = c.events.invariant.unrefused;
      taken = omega (arith, c.step-step.ensures.used.1, c.events.invariant.taken);
      progress = omega (arith, c.events.invariant.progress, c.step-step.ensures.event.0 (subst IsEvent (sym c.in-Event.is) tt));
      begun = inr (live-then _ c.events.machine c.step-step.new.self _ _ c.step-step.result c.in-Event.next c.events.invariant.begun c.step-step.ensures.stays c.in-Event.is);
    }

pub returns-in-More-clause-reports : goal.returns-in-More-clause-reports
returns-in-More-clause-reports c =
    rw (c.new.ensures, take-add c.events.used c.step-step.result.used c.args.input.now)
    (no_further _ c.events.machine _ _ _ _ _ _ outs.More c.events.invariant.given c.step-step.ensures.limits (refl, (c.step-step.ensures.more (subst IsMore (sym c.in-More.is) tt)).3)
    (subst (λ (o : Out). HasReturned o c.events.machine c.step-step.new.self (take c.step-step.result.used (drop c.events.used c.args.input.now))) c.in-More.is (rw (take_rest c.args.input.now c.events.used) at c.step-step.ensures.returned)))

pub returns-in-Done-clause-reports : goal.returns-in-Done-clause-reports
returns-in-Done-clause-reports c =
    rw (c.new-in-Done.ensures, take-add c.events.used c.step-step.result.used c.args.input.now)
    (no_further _ c.events.machine _ _ _ _ _ _ outs.Done c.events.invariant.given c.step-step.ensures.limits (refl, done-following _ _ _ c.step-step.ensures.stays c.in-Done.is)
    (subst (λ (o : Out). HasReturned o c.events.machine c.step-step.new.self (take c.step-step.result.used (drop c.events.used c.args.input.now))) c.in-Done.is (rw (take_rest c.args.input.now c.events.used) at c.step-step.ensures.returned)))

pub returns-in-Refused-clause-reports : goal.returns-in-Refused-clause-reports
returns-in-Refused-clause-reports c =
    rw (c.new-in-Refused.ensures, take-add c.events.used c.step-step.result.used c.args.input.now)
    (no_further _ c.events.machine _ _ _ _ _ _ (outs.Refused c.in-Refused.why) c.events.invariant.given c.step-step.ensures.limits (refl, c.reported.ensures, (rw c.in-Refused.is at c.step-step.ensures.refused).0)
    (subst (λ (o : Out). HasReturned o c.events.machine c.step-step.new.self (take c.step-step.result.used (drop c.events.used c.args.input.now))) c.in-Refused.is (rw (take_rest c.args.input.now c.events.used) at c.step-step.ensures.returned)))

pub returns-in-More-clause-complete : goal.returns-in-More-clause-complete
returns-in-More-clause-complete c = λ _ done. elim (subst IsDone c.in-More.is (complete-then _ c.events.machine c.step-step.new.self _ _ c.step-step.result c.events.invariant.begun c.step-step.ensures.stays done).0) [ ]

pub returns-in-More-clause-again : goal.returns-in-More-clause-again
returns-in-More-clause-again c = λ _.
    refused-then _ c.events.machine c.step-step.new.self _ _ c.step-step.result _ c.events.invariant.begun c.step-step.ensures.stays
    (λ f out none before same. elim (not-more f (sym c.in-More.is ∙ out)) [ ])

pub returns-in-Done-clause-complete : goal.returns-in-Done-clause-complete
returns-in-Done-clause-complete c = λ _ done.
    let k = complete-then _ c.events.machine c.step-step.new.self _ _ c.step-step.result c.events.invariant.begun c.step-step.ensures.stays done in
    rw c.new-in-Done.ensures (refl, omega (arith, k.1, k.2), k.3)

pub returns-in-Done-clause-again : goal.returns-in-Done-clause-again
returns-in-Done-clause-again c = λ _.
    refused-then _ c.events.machine c.step-step.new.self _ _ c.step-step.result _ c.events.invariant.begun c.step-step.ensures.stays
    (λ f out none before same. elim (not-done f (sym c.in-Done.is ∙ out)) [ ])

pub returns-in-Refused-clause-complete : goal.returns-in-Refused-clause-complete
returns-in-Refused-clause-complete c = λ _ done. elim (subst IsDone c.in-Refused.is (complete-then _ c.events.machine c.step-step.new.self _ _ c.step-step.result c.events.invariant.begun c.step-step.ensures.stays done).0) [ ]

pub returns-in-Refused-clause-again : goal.returns-in-Refused-clause-again
returns-in-Refused-clause-again c = λ _.
    rw c.new-in-Refused.ensures (refused-then _ c.events.machine c.step-step.new.self _ _ c.step-step.result _ c.events.invariant.begun c.step-step.ensures.stays
    (λ f out none before same. (refl, subst (λ (r : Refusal). IsReported r c.reported.result) (same-refusal (sym c.in-Refused.is ∙ out)) c.reported.ensures, omega (arith, none, before), same)))

pub returns-clause-complete : goal.returns-clause-complete
returns-clause-complete c = λ space done.
    elim ((live-following _ _ _ _ c.events.invariant.begun (omega (arith, space, c.events-test.false, c.events.auto.events))).0 done) [ ]

pub returns-clause-again : goal.returns-clause-again
returns-clause-again c = λ space.
    unrefused _ _ (live-following _ _ _ _ c.events.invariant.begun (omega (arith, space, c.events-test.false, c.events.auto.events))).1
