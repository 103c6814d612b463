use Rattle.std.proofs.Common.{◌≡◌, ◌<◌, ◌∙◌, Some, None, sym, ap, subst, inl, inr, arith, take, []}
use Rattle.cbor_head.specs.{Prelude.refusal, declared.reason.Reason.TheVariants.Truncated, declared.reason.Refusal.Refusal}
use Rattle.cbor_machine.specs.Machine.{IfRefused, IsMore, IsEvent}
use Rattle.cbor_machine.specs.declared.step.Out.{Out}
use Rattle.cbor_stream.proofs.Checking.{ends_done, ends_refused, ends_more, agrees_more}
use Rattle.cbor_stream.proofs.strict_machine.StrictMachine.end.Goals as goal
use Rattle.cbor_stream.{specs.StrictMachine.IsStrictResult, specs.Reasons.IsStrictReason, proofs.Steps.if_refused}

pub returns-in-Done-clause-says : goal.returns-in-Done-clause-says
returns-in-Done-clause-says c = λ t ms h.
    let s = c.step in
    let none : s.result.used ≡ 0 = omega (arith, s.ensures.used.0) in
    ends_done c.args.self.now s.new.self s.ensures.limits s.ensures.order s.ensures.keys (take s.result.used []) t ms (ap (λ n. take n []) none) c.taken-taken.result (c.taken-taken.ensures.taken ∙ h.agrees.taken)
    (subst (λ (o : Out). IsStrictResult o s.new.self t (take s.result.used []) ms) c.in-Done.is (s.ensures.returned t ms h))

pub returns-in-Refused-clause-says : goal.returns-in-Refused-clause-says
returns-in-Refused-clause-says c = λ t ms h.
    let s = c.step in
    let none : s.result.used ≡ 0 = omega (arith, s.ensures.used.0) in
    let r = subst (λ (o : Out). IfRefused o (λ f. IsStrictReason c.args.self.now.order f.reason)) c.in-Refused.is (if_refused s.result.out _ _ (λ f k. k.2) s.ensures.refused) in
    ends_refused c.args.self.now s.new.self s.ensures.limits s.ensures.order s.ensures.keys (take s.result.used []) t ms (ap (λ n. take n []) none) c.in-Refused.refusal
    (subst (λ (o : Out). IsStrictResult o s.new.self t (take s.result.used []) ms) c.in-Refused.is (s.ensures.returned t ms h)) r

pub returns-in-More-clause-says : goal.returns-in-More-clause-says
returns-in-More-clause-says c = λ t ms h.
    let s = c.step in
    let none : s.result.used ≡ 0 = omega (arith, s.ensures.used.0) in
    elim c.in-More.is [
      | inl is ↦
          ends_more c.args.self.now s.new.self s.ensures.limits s.ensures.order s.ensures.keys (take s.result.used []) t ms (ap (λ n. take n []) none) c.new.result
          (c.new.ensures ∙ ap (λ n. refusal Truncated n n) (c.taken-taken.ensures.taken ∙ h.agrees.taken)) (s.ensures.more (subst IsMore (sym is) tt)).1
          (subst (λ (o : Out). IsStrictResult o s.new.self t (take s.result.used []) ms) is (s.ensures.returned t ms h))
      | inr e ↦ let some : 0 < s.result.used = s.ensures.event.0 (subst IsEvent (sym e.1) tt) in absurd (omega (arith, some, none))
    ]

pub returns-in-Refused-clause-stored : goal.returns-in-Refused-clause-stored
returns-in-Refused-clause-stored c = λ _.
    let s = c.step in
    subst (λ (o : Out). IfRefused o (λ f. s.new.self.refusal ≡ Some f)) c.in-Refused.is (if_refused s.result.out _ _ (λ f k. k.0) s.ensures.refused)

pub returns-in-More-clause-stored : goal.returns-in-More-clause-stored
returns-in-More-clause-stored c = λ no. absurd (no (ap (λ (f : Refusal). f.reason) c.new.ensures))

pub returns-in-Done-clause-agrees : goal.returns-in-Done-clause-agrees
returns-in-Done-clause-agrees c = λ t ms h live.
    let s = c.step in
    (subst (λ (o : Out). IsStrictResult o s.new.self t (take s.result.used []) ms) c.in-Done.is (s.ensures.returned t ms h)).2

pub returns-in-More-clause-agrees : goal.returns-in-More-clause-agrees
returns-in-More-clause-agrees c = λ t ms h live.
    let s = c.step in
    let none : s.result.used ≡ 0 = omega (arith, s.ensures.used.0) in
    elim c.in-More.is [
      | inl is ↦
          agrees_more c.args.self.now s.new.self s.ensures.limits s.ensures.order s.ensures.keys (take s.result.used []) t ms (ap (λ n. take n []) none)
          (subst (λ (o : Out). IsStrictResult o s.new.self t (take s.result.used []) ms) is (s.ensures.returned t ms h))
      | inr e ↦ let some : 0 < s.result.used = s.ensures.event.0 (subst IsEvent (sym e.1) tt) in absurd (omega (arith, some, none))
    ]

pub returns-in-Refused-clause-agrees : goal.returns-in-Refused-clause-agrees
returns-in-Refused-clause-agrees c = λ t ms h live.
    let s = c.step in
    let r = subst (λ (o : Out). IfRefused o (λ f. s.new.self.refusal ≡ Some f)) c.in-Refused.is (if_refused s.result.out _ _ (λ f k. k.0) s.ensures.refused) in
    let both : None ≡ Some c.in-Refused.refusal = sym live ∙ r in cc both
