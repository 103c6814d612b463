use Rattle.std.proofs.Common.{◌∙◌, sym, ap, subst}
use Rattle.cbor_head.specs.{Prelude.refusal, declared.reason.Reason.TheVariants.KeyKind}
use Rattle.cbor_machine.specs.Machine.{IsEvent}
use Rattle.cbor_stream.proofs.Steps.{if_refused, event_come_here, no_event_here, event_here, withheld_here, other_here}
use Rattle.cbor_stream.proofs.next_step.offer.Goals as goal
use Rattle.cbor_stream.specs.inner.Amid.{IsTaken}

pub is_other_key-requires : goal.is_other_key-requires
is_other_key-requires c = λ k. (c.requires.first k).0

pub returns-then-is_other_key-clause-returned : goal.returns-then-is_other_key-clause-returned
returns-then-is_other_key-clause-returned c = λ b t ms a offered.
    let s = c.take_part-step in
    let k = c.is_other_key.ensures.other c.if-is_other_key.true in
    other_here c.args.is_key c.args.machine.now s.new.machine c.args.items.now c.args.input.now s.result c.below_256.ensures c.requires.first s.ensures.used s.ensures.taken s.ensures.limits s.ensures.exact s.ensures.walked s.ensures.returned
    b t ms a offered k.0 (subst (IsTaken s.result.out) c.taken-place.ensures.taken k.1) k.2 c.new-refusal.result
    (c.new-refusal.ensures ∙ ap (λ n. refusal KeyKind n c.taken.result) c.taken-place.ensures.taken ∙ ap (refusal KeyKind c.args.machine.now.taken) c.taken.ensures.taken)

pub returns-in_default-clause-returned : goal.returns-in_default-clause-returned
returns-in_default-clause-returned c = λ b t ms a offered.
    let s = c.take_part-step in
    no_event_here c.args.is_key c.args.machine.now s.new.machine c.args.items.now c.args.input.now s.result c.below_256.ensures c.requires.first s.ensures.used s.ensures.taken s.ensures.limits s.ensures.exact s.ensures.walked s.ensures.returned
    b t ms a offered (λ key was. c.is_other_key.ensures.basic c.if-is_other_key.false key (subst (IsTaken s.result.out) (sym c.taken-place.ensures.taken) was)) c.in_default.not-Event s.ensures.done s.ensures.stays (if_refused s.result.out _ _ (λ f h. h.1) s.ensures.refused) s.ensures.reason

pub admit-requires : goal.admit-requires
admit-requires c =
    let s = c.take_part-step in
    let x = c.requires.somewhere.1 in
    event_come_here c.args.is_key c.args.machine.now s.new.machine c.args.items.now c.args.input.now s.result c.below_256.ensures c.requires.first s.ensures.used s.ensures.taken s.ensures.limits s.ensures.exact s.ensures.walked s.ensures.returned
    x.b x.t x.ms x.amid c.in-Event.event c.in-Event.is (s.ensures.progress (subst IsEvent (sym c.in-Event.is) tt)) c.open-open.result c.taken-taken.result c.open-open.ensures.count c.taken-taken.ensures.taken

pub returns-in-Ok-clause-returned : goal.returns-in-Ok-clause-returned
returns-in-Ok-clause-returned c = λ b t ms a offered.
    let s = c.take_part-step in
    event_here c.args.is_key c.args.machine.now s.new.machine c.args.items.now c.args.input.now s.result c.below_256.ensures c.requires.first s.ensures.used s.ensures.taken s.ensures.limits s.ensures.exact s.ensures.walked s.ensures.returned
    b t ms a offered (λ key was. c.is_other_key.ensures.basic c.if-is_other_key.false key (subst (IsTaken s.result.out) (sym c.taken-place.ensures.taken) was)) c.in-Event.event c.in-Event.is (s.ensures.progress (subst IsEvent (sym c.in-Event.is) tt)) c.admit.new.self c.in-Ok.ensures.order c.open-open.result c.taken-taken.result c.open-open.ensures.count c.taken-taken.ensures.taken tt c.in-Ok.ensures.returned

pub returns-in-Err-clause-returned : goal.returns-in-Err-clause-returned
returns-in-Err-clause-returned c = λ b t ms a offered.
    let s = c.take_part-step in
    withheld_here c.args.is_key c.args.machine.now s.new.machine c.args.items.now c.args.input.now s.result c.below_256.ensures c.requires.first s.ensures.used s.ensures.taken s.ensures.limits s.ensures.exact s.ensures.walked s.ensures.returned
    b t ms a offered (λ key was. c.is_other_key.ensures.basic c.if-is_other_key.false key (subst (IsTaken s.result.out) (sym c.taken-place.ensures.taken) was)) c.in-Event.event c.in-Event.is (s.ensures.progress (subst IsEvent (sym c.in-Event.is) tt)) c.admit.new.self c.in-Err.ensures.order c.open-open.result c.taken-taken.result c.open-open.ensures.count c.taken-taken.ensures.taken c.in-Err.refusal c.in-Err.ensures.against c.in-Err.ensures.returned
