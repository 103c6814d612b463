use Rattle.std.proofs.Common.{◌≡◌, None, sym, ◌∙◌, subst, arith, take, length-drop}
use Rattle.std.specs.Option.{IfSome}
use Rattle.cbor_head.specs.declared.order.KeyOrder.{KeyOrder}
use Rattle.cbor_machine.specs.declared.step.Out.TheVariants as outs
use Rattle.cbor_machine.{specs.Machine.IsComplete, specs.declared.step.Out.Out, proofs.Feeding.rest_from}
use Rattle.cbor_stream.proofs.Checking.{IsChecked, checked_on, checked_item, checked_out, done_so, within_so, taken_so, limits_all, again_so}
use Rattle.cbor_stream.proofs.strict_machine.StrictMachine.check.Goals as goal
use Rattle.cbor_stream.{specs.StrictMachine.StrictMachineView, specs.StrictMachine.IsStrictResult, specs.Reasons.IsStrictReason, proofs.Steps.if_refused}

pub events-preserved-in-Some : goal.events-preserved-in-Some
events-preserved-in-Some c =
    let s = c.in-Some.ensures in
    let new = c.take_item.new.self in
    checked_item c.args.self.now c.events.self new c.args.input.now c.events.used c.in-Some.size c.events.invariant s.used.1 s.used.2 s.limits s.order s.keys s.agrees s.live s.unfinished

pub events-preserved : goal.events-preserved
events-preserved c =
    let s = c.step-step in
    let now = c.take_item.new.self in
    let new = s.new.self in
    let input = c.args.input.now in
    let so : IsChecked c.args.self.now now input c.events.used = subst (λ (v : StrictMachineView). IsChecked c.args.self.now v input c.events.used) (sym (c.take_item.ensures.none c.in_default.is)) c.events.invariant in
    checked_on c.args.self.now now new input c.events.used s.result.used so s.ensures.used.0 s.ensures.used.1 s.ensures.limits s.ensures.order s.ensures.keys c.in-Event.field-0
    (λ t ms h. subst (λ (o : Out). IsStrictResult o new t (take s.result.used (rest_from c.events.used input)) ms) c.in-Event.is (s.ensures.returned t ms h))
    (subst (λ (o : Out). IfSome now.refusal (λ f. (o ≡ outs.Refused f) × (s.result.used ≡ 0) × (new ≡ now))) c.in-Event.is s.ensures.again)
    (subst (λ (o : Out). IsComplete now.machine → now.refusal ≡ None → (o ≡ outs.Done) × (s.result.used ≡ 0)) c.in-Event.is s.ensures.complete)

pub returns-in_default-out : goal.returns-in_default-out
returns-in_default-out c =
    let s = c.step-step in
    let e = s.ensures in
    let old = c.args.self.now in
    let now = c.take_item.new.self in
    let new = s.new.self in
    let input = c.args.input.now in
    let used = c.events.used in
    let so : IsChecked old now input used = subst (λ (v : StrictMachineView). IsChecked old v input used) (sym (c.take_item.ensures.none c.in_default.is)) c.events.invariant in
    record {
      used = (within_so old now new input used s.result.used so e.used.0 e.used.1 e.limits e.order e.keys, taken_so old now new input used s.result.used so e.used.0 e.used.1 e.limits e.order e.keys);
      says = λ t ms h.
          checked_out old now new input used s.result.used so e.used.0 e.used.1 e.limits e.order e.keys s.result.out c.in_default-out.not-Event e.returned (λ i. (e.more i).1) (if_refused s.result.out _ _ (λ f r. r.2) e.refused) t ms h;
      limits = limits_all old now new input used s.result.used so e.used.0 e.used.1 e.limits e.order e.keys;
      order = e.order ∙ so.order;
      keys = e.keys ∙ so.keys;
      more = λ i. omega (arith, (e.more i).0, so.within, length-drop used input);
      refused = if_refused s.result.out _ _ (λ f r. (r.0, r.1, subst (λ (o : KeyOrder). IsStrictReason o f.reason) so.order r.2, r.3, r.4)) e.refused;
      memory = e.memory;
      complete = λ is live. done_so old now new input used s.result.used so e.used.0 e.used.1 e.limits e.order e.keys s.result.out e.complete is live;
      again = again_so old now new s.result.out used s.result.used so.same e.again;
    }
