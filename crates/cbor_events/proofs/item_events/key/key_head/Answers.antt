use Rattle.std.proofs.Common.{◌<◌, ◌∙◌, refl, sym, subst, inr, arith, ap}
use Rattle.cbor_head.specs.{Prelude.refusal, declared.reason.Reason.TheVariants.KeyKind}
use Rattle.cbor_machine.{specs.Machine.wanted, proofs.Buffers.head-outcome, proofs.NextEvents.complete-wants}
use Rattle.cbor_events.proofs.Keys.{end-key, other-here, reported-key, stopped-key, open-key, first-read}
use Rattle.cbor_events.proofs.item_events.key.key_head.Goals as goal
use Rattle.cbor_events.{specs.inner.Reads.IsTakenAt, proofs.Parts.none-read}

pub returns-then-wanted-eq0-clause-returned : goal.returns-then-wanted-eq0-clause-returned
returns-then-wanted-eq0-clause-returned g c = λ kept t ms h.
    let m = c.args.machine.now in
    end-key c.at_end.result m c.at_end.new.machine _ _ kept t ms h (sym c.wanted.ensures.wanted ∙ c.if-wanted-eq0.true) c.at_end.ensures.limits c.at_end.ensures.none (c.at_end.ensures.returned m _ _ kept t ms h (none-read _ m t ms h.agrees) refl)

pub returns-then-is_other-clause-returned : goal.returns-then-is_other-clause-returned
returns-then-is_other-clause-returned g c = λ kept t ms h.
    let m = c.args.machine.now in
    let other = c.is_other.ensures.other c.if-is_other.true in
    let some : 0 < wanted m = omega (arith, c.wanted.ensures.wanted, c.if-wanted-eq0.false) in
    inr (other-here c.first_byte-part.result.0 c.new.result m c.first_byte-part.new.machine _ _ c.first_byte-part.result.1 kept t ms h (c.first_byte-part.ensures.lost t ms h.agrees)
    (subst (IsTakenAt c.first_byte-part.result.0) c.taken-place.ensures.taken other.0) other.1 other.2 c.first_byte-part.ensures.limits.depth (complete-wants m h.agrees.inner.shown some)
    (c.new.ensures ∙ ap (λ n. refusal KeyKind n c.taken.result) c.taken-place.ensures.taken ∙ ap (refusal KeyKind m.taken) c.taken.ensures.taken))

pub returns-in-Reported-clause-returned : goal.returns-in-Reported-clause-returned
returns-in-Reported-clause-returned g c = λ kept t ms h.
    reported-key c.in-Reported.event c.args.machine.now c.first_byte-part.new.machine _ _ c.first_byte-part.result.1 kept t ms h (rw c.in-Reported.is at (c.first_byte-part.ensures.lost t ms h.agrees))
    (c.is_other.ensures.basic c.if-is_other.false (rw c.in-Reported.is tt)) (rw c.in-Reported.is at (c.first_byte-part.ensures.returned kept t ms h))

pub returns-in-Open-clause-returned : goal.returns-in-Open-clause-returned
returns-in-Open-clause-returned g c = λ kept t ms h.
    let m = c.args.machine.now in
    let lost = rw c.in-Open.is at (c.first_byte-part.ensures.lost t ms h.agrees) in
    open-key c.next_part.result m c.first_byte-part.new.machine c.next_part.new.machine _ (g.R.Read.remaining c.first_byte-part.new.reader) _ c.first_byte-part.result.1 kept t ms h c.first_byte-part.ensures.limits.depth lost
    (c.is_other.ensures.basic c.if-is_other.false (rw c.in-Open.is tt)) (λ s. c.next_part.ensures.given _ ms s)
    (head-outcome c.next_part.result _ _ m c.next_part.new.machine kept _ t ms c.requires.head (c.next_part.ensures.returned m _ kept t ms h (first-read m c.first_byte-part.new.machine _ _ c.first_byte-part.result.1 t ms lost) c.first_byte-part.ensures.limits.depth))

pub returns-in-Stopped-clause-returned : goal.returns-in-Stopped-clause-returned
returns-in-Stopped-clause-returned g c = λ kept t ms h.
    stopped-key c.in-Stopped.refusal c.args.machine.now c.first_byte-part.new.machine _ _ c.first_byte-part.result.1 kept t ms h (rw c.in-Stopped.is at (c.first_byte-part.ensures.lost t ms h.agrees))
    (λ at. c.is_other.ensures.basic c.if-is_other.false (rw (c.in-Stopped.is, c.taken-place.ensures.taken) at)) (rw c.in-Stopped.is at (c.first_byte-part.ensures.returned kept t ms h))
