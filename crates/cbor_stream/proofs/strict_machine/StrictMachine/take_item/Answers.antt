use Rattle.std.proofs.Common.{◌≡◌, ◌++◌, ℕ, List, Option, None, refl, sym, subst, arith, take, length-take, take-take}
use Rattle.cbor_head.specs.declared.reason.Refusal.{Refusal}
use Rattle.cbor_strict.specs.inner.StrictEvents.{bounds_of}
use Rattle.cbor_stream.proofs.Starts.{shown, sound_live, limits_so, there}
use Rattle.cbor_stream.proofs.strict_machine.StrictMachine.take_item.Goals as goal
use Rattle.cbor_stream.specs.{StrictMachine.StrictMachineView, StrictMachine.AgreesAmid, inner.Amid.AreSound}

pub invariant_of-self-2 : goal.invariant_of-self-2
invariant_of-self-2 c =
    let new = c.take_item-taken.new in
    let i = c.self.inside in
    let x = c.self.invariant.somewhere c.in-None.is in
    let s = c.in-Some-taken.ensures.agrees x.b x.t x.ms x.amid x.asks in
    subst (AreSound new.machine new.items i.keys) (sym c.in-None.is)
    (sound_live new.machine new.items i.keys x.b (x.t ++ take c.in-Some-taken.used (take c.part-part.result c.args.input.now)) s.0 x.asks (limits_so i.machine new.machine i.items new.items i.keys c.in-Some-taken.ensures.limits c.self.invariant.limits) s.1)

pub returns-clause-agrees : goal.returns-clause-agrees
returns-clause-agrees c = λ t ms h.
    let new = c.take_item-taken.new in
    let i = c.self.inside in
    let input = c.args.input.now in
    let part = c.part-part.result in
    let used = c.in-Some-taken.used in
    let here = subst (λ (o : StrictMachineView). AgreesAmid o t ms) (sym c.self.view_is) h in
    let s = c.in-Some-taken.ensures.agrees (bounds_of i.machine i.keys) t ms here.inner refl in
    let same : take used (take part input) ≡ take used input = take-take used part input (omega (arith, c.in-Some-taken.ensures.used.1, length-take part input)) in (
      s.0,
      subst (λ (r : Option Refusal). AgreesAmid (shown new.machine new.items i.keys r) (t ++ take used input) s.0) (sym c.in-None.is)
          (subst (λ (x : List ℕ). AgreesAmid (shown new.machine new.items i.keys None) (t ++ x) s.0) same
          (there i.machine new.machine i.items new.items i.keys c.in-Some-taken.ensures.limits c.self.invariant.limits (t ++ take used (take part input)) s.0 s.1)),
    )
