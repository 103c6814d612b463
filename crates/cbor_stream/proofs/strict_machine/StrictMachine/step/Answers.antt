use Rattle.std.proofs.Common.{◌≡◌, ◌++◌, Option, refl, sym, subst, take, IsTrue}
use Rattle.cbor_head.specs.declared.reason.{Reason.TheVariants.Memory, Refusal.Refusal}
use Rattle.cbor_machine.specs.{Machine.KeepsLimits, Machine.IfRefused, declared.step.Out.Out}
use Rattle.cbor_strict.specs.inner.StrictEvents.{bounds_of}
use Rattle.cbor_stream.specs.StrictMachine.{StrictMachineView, AgreesAmid, IsStrictResult}
use Rattle.cbor_stream.proofs.Starts.{shown, sound_so, sound_refused, result_so, refused_so, live_of}
use Rattle.cbor_stream.proofs.strict_machine.StrictMachine.step.Goals as goal
use Rattle.cbor_stream.specs.{Reasons.IsStrictReason, inner.Amid.AreSound, inner.Amid.IsStepResult}

pub next_step-step-requires : goal.next_step-step-requires
next_step-step-requires c = c.self.invariant.somewhere c.in-None.is

pub returns-in-Some-clause-limits : goal.returns-in-Some-clause-limits
returns-in-Some-clause-limits c = subst (λ (v : StrictMachineView). KeepsLimits v.machine v.machine) c.self.view_is (record { depth = refl; bytes = refl; open_count = c.self.invariant.within; taken = c.self.invariant.limited })

pub invariant_of-self : goal.invariant_of-self
invariant_of-self c =
    let s = c.next_step-step in
    let x = c.self.invariant.somewhere c.in-None.is in
    subst (AreSound s.new.machine s.new.items c.self.inside.keys) (sym c.in-None.is)
    (sound_so c.self.inside.machine s.new.machine c.self.inside.items s.new.items c.self.inside.keys s.ensures.limits c.self.invariant.limits s.result.out x.b x.t (take s.result.used c.args.input.now) x.ms x.asks (live_of s.result.out c.in_default.not-Refused) (s.ensures.returned x.b x.t x.ms x.amid x.asks))

pub returns-in_default-clause-returned : goal.returns-in_default-clause-returned
returns-in_default-clause-returned c = λ t ms h.
    let s = c.next_step-step in
    let keys = c.self.inside.keys in
    let here = subst (λ (o : StrictMachineView). AgreesAmid o t ms) (sym c.self.view_is) h in
    subst (λ (r : Option Refusal). IsStrictResult s.result.out (shown s.new.machine s.new.items keys r) t (take s.result.used c.args.input.now) ms) (sym c.in-None.is)
    (result_so c.self.inside.machine s.new.machine c.self.inside.items s.new.items keys s.ensures.limits c.self.invariant.limits s.result.out t (take s.result.used c.args.input.now) ms (live_of s.result.out c.in_default.not-Refused) (s.ensures.returned (bounds_of c.self.inside.machine keys) t ms here.inner refl))

pub invariant_of-self-2 : goal.invariant_of-self-2
invariant_of-self-2 c =
    let s = c.next_step-step in
    let r = subst (λ (o : Out). IfRefused o (λ f. (s.new.machine.taken ≡ f.read) × IsStrictReason c.self.inside.items.order f.reason)) c.in-Refused.is s.ensures.refused in
    sound_refused c.self.inside.machine s.new.machine c.self.inside.items s.new.items c.self.inside.keys s.ensures.limits c.self.invariant.limits c.in-Refused.refusal c.forget.new.self s.ensures.order r.0 r.1 c.forget.ensures
    (subst (λ (o : Out). IfRefused o (λ f. f.reason ≡ Memory → IsTrue s.new.items.memory)) c.in-Refused.is s.ensures.memory)

pub returns-clause-returned : goal.returns-clause-returned
returns-clause-returned c = λ t ms h.
    let s = c.next_step-step in
    let keys = c.self.inside.keys in
    let b = bounds_of c.self.inside.machine keys in
    let bs = take s.result.used c.args.input.now in
    let here = subst (λ (o : StrictMachineView). AgreesAmid o t ms) (sym c.self.view_is) h in
    refused_so c.self.inside.machine s.new.machine c.self.inside.items s.new.items keys s.ensures.limits c.self.invariant.limits c.in-Refused.refusal c.forget.new.self (t ++ bs) ms
    (subst (λ (o : Out). IsStepResult o s.new.machine s.new.items b t bs ms) c.in-Refused.is (s.ensures.returned b t ms here.inner refl))
