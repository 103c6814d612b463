use Rattle.std.proofs.Common.{[], take, sym, subst, Some}
use Rattle.cbor_machine.{specs.NextEvent.ItemEventsView, specs.NextEvent.AgreesBetween, proofs.Buffers.refused-call}
use Rattle.cbor_events.proofs.item_events.ItemEvents.next_by_kind.Goals as goal
use Rattle.cbor_events.proofs.Keys.{refused-key}
use Rattle.cbor_events.proofs.item_events.ItemEvents.next_by_kind.Goals.{then-is_asked, else-is_asked}

pub returns-in-Ok-clause-returned : goal.returns-in-Ok-clause-returned
returns-in-Ok-clause-returned g c = λ live t ms h.
    let here = subst (λ (v : ItemEventsView). AgreesBetween v.machine t ms) (sym c.self.view_is) h in
    elim c.if-is_asked.branch [
      | then-is_asked w ↦ rw (w.self-inside-is, w.reader-is, w.if-is_asked.true, ← c.self.view_is) (rw (sym w.outcome-is, c.in-Ok.is) at (w.key_head-outcome.ensures.returned (take c.self.inside.held c.self.inside.buffer) t ms here))
      | else-is_asked w ↦ rw (w.self-inside-is, w.reader-is, w.if-is_asked.false, ← c.self.view_is) (rw (sym w.outcome-is, c.in-Ok.is) at (w.advance-outcome.ensures.returned t ms here))
    ]

pub returns-in-Err-clause-returned : goal.returns-in-Err-clause-returned
returns-in-Err-clause-returned g c = λ live t ms h.
    let here = subst (λ (v : ItemEventsView). AgreesBetween v.machine t ms) (sym c.self.view_is) h in
    elim c.if-is_asked.branch [
      | then-is_asked w ↦ rw (w.self-inside-is, w.reader-is, w.if-is_asked.true)
          (refused-key c.in-Err.refusal _ c.args.self.now (record { machine = w.key_head-outcome.new.machine; piece = []; refusal = Some c.in-Err.refusal }) _ _ _ t ms c.self.view_is (rw (sym w.outcome-is, c.in-Err.is) at (w.key_head-outcome.ensures.returned (take c.self.inside.held c.self.inside.buffer) t ms here)))
      | else-is_asked w ↦ rw (w.self-inside-is, w.reader-is, w.if-is_asked.false)
          (refused-call c.in-Err.refusal _ c.args.self.now (record { machine = w.advance-outcome.new.machine; piece = []; refusal = Some c.in-Err.refusal }) _ _ _ t ms c.self.view_is (rw (sym w.outcome-is, c.in-Err.is) at (w.advance-outcome.ensures.returned t ms here)))
    ]
