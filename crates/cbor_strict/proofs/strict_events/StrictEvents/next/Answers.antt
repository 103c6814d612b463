use Rattle.std.proofs.Common.{Some, refl, sym, subst, Ok}
use Rattle.cbor_head.specs.Prelude.{strict}
use Rattle.cbor_machine.specs.Machine.{KeepsLimits}
use Rattle.theory_verdicts.specs.Refusals.{IsReaderReason}
use Rattle.cbor_strict.specs.StrictReader.{StrictEventsView, AgreesStrictly, IsNextStrict, IsStrictRefusal, limits_of, strict_call}
use Rattle.cbor_strict.proofs.StrictReading.{next_reported, next_refused, within_next, within_stopped, refused_reason, shown}
use Rattle.cbor_strict.proofs.strict_events.StrictEvents.next.Goals as goal
use Rattle.cbor_strict.specs.inner.StrictEvents.{bounds_of}

pub returns-in-Some-clause-limits : goal.returns-in-Some-clause-limits
returns-in-Some-clause-limits g c = subst (λ (v : StrictEventsView). KeepsLimits v.machine v.machine) c.self.view_is
    (record { depth = refl; bytes = refl; open_count = c.self.invariant.within; taken = c.self.invariant.limited })

pub invariant_of-self : goal.invariant_of-self
invariant_of-self g c = within_next c.self.inside.events c.next_event.new.events c.self.inside.items c.next_event.new.items c.self.inside.keys _ _ c.in-Ok.ensures.limits c.in-Ok.event c.self.inside.refusal c.in-None.is c.self.invariant c.in-Ok.ensures.returned

pub invariant_of-self-in-Err : goal.invariant_of-self-in-Err
invariant_of-self-in-Err g c =
    within_stopped c.self.inside.events c.next_event.new.events c.self.inside.items c.next_event.new.items c.self.inside.keys _ _ c.in-Err.ensures.limits c.in-Err.refusal c.self.inside.refusal c.forget.new.self c.in-None.is c.self.invariant c.in-Err.ensures.returned c.in-Err.ensures.order c.in-Err.ensures.taken c.forget.ensures c.in-Err.ensures.memory

pub returns-in-Ok-clause-returned : goal.returns-in-Ok-clause-returned
returns-in-Ok-clause-returned g c = λ t ms h.
    subst (λ (o : StrictEventsView). IsNextStrict (Ok c.in-Ok.event) (strict_call o (shown c.next_event.new.events c.next_event.new.items c.self.inside.keys c.self.inside.refusal) (g.R.Read.remaining c.args.reader.now) (g.R.Read.remaining c.next_event.new.reader) t ms)) c.self.view_is
    (next_reported c.self.inside.events c.next_event.new.events c.self.inside.items c.next_event.new.items c.self.inside.keys _ _ c.in-Ok.ensures.limits c.in-Ok.event c.self.inside.refusal c.in-Ok.ensures.returned t ms
    (subst (λ (o : StrictEventsView). AgreesStrictly o t ms) (sym c.self.view_is) h))

pub returns-in-Err-clause-returned : goal.returns-in-Err-clause-returned
returns-in-Err-clause-returned g c = λ t ms h.
    subst (λ (o : StrictEventsView). IsStrictRefusal c.in-Err.refusal (strict_call o (shown c.next_event.new.events (record c.next_event.new.items { keys = c.forget.new.self }) c.self.inside.keys (Some c.in-Err.refusal)) (g.R.Read.remaining c.args.reader.now) (g.R.Read.remaining c.next_event.new.reader) t ms)) c.self.view_is
    (next_refused c.self.inside.events c.next_event.new.events c.self.inside.items c.next_event.new.items c.self.inside.keys _ _ c.in-Err.ensures.limits c.in-Err.refusal c.self.inside.refusal (record c.next_event.new.items { keys = c.forget.new.self }) c.in-Err.ensures.returned c.in-Err.ensures.at_once t ms
    (subst (λ (o : StrictEventsView). AgreesStrictly o t ms) (sym c.self.view_is) h))

pub returns-in-Err-clause-refused : goal.returns-in-Err-clause-refused
returns-in-Err-clause-refused g c = (
  refl,
  c.in-Err.ensures.taken,
  subst (λ (o : StrictEventsView). IsReaderReason (limits_of o) (strict o.order) c.in-Err.refusal.reason) c.self.view_is
      (refused_reason c.self.inside.events c.next_event.new.events c.self.inside.items c.next_event.new.items c.self.inside.keys _ _ c.in-Err.ensures.limits (bounds_of c.self.inside.events.machine c.self.inside.keys) c.in-Err.refusal refl (c.self.invariant.agrees c.in-None.is) c.in-Err.ensures.returned),
)
