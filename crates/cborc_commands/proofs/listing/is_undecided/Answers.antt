use Rattle.std.proofs.Common.{◌<◌, arith}
use Rattle.cborc_commands.proofs.Undecided.{none_taken, taken_within, event_taken, decided_at_end, undecided_at_end, undecided_within, decided_by_refusal}
use Rattle.cborc_commands.proofs.listing.is_undecided.Goals as goal

pub events-init : goal.events-init
events-init c = none_taken c.args.limits c.args.bytes.now c.new-machine.result c.new-machine.ensures.limits.0 c.new-machine.ensures.limits.1 c.new-machine.ensures.starts

pub events-preserved : goal.events-preserved
events-preserved c =
    let h = c.events.invariant in
    let given = rw (c.in-Event.is) at (c.step-step.ensures.returned h.taken h.marks h.agrees) in
    event_taken c.args.limits c.args.bytes.now c.events.machine h c.step-step.new.self c.taken.result c.taken.ensures.taken c.step-step.result.used c.in-Event.field-0
    c.step-step.ensures.limits given

pub events-smaller : goal.events-smaller
events-smaller c =
    let h = c.events.invariant in
    let given = rw (c.in-Event.is) at (c.step-step.ensures.returned h.taken h.marks h.agrees) in
    let some : 0 < c.step-step.result.used = (rw (c.in-Event.is) at c.step-step.ensures.event.0) tt in
    let later = event_taken c.args.limits c.args.bytes.now c.events.machine h c.step-step.new.self c.taken.result c.taken.ensures.taken c.step-step.result.used c.in-Event.field-0
    c.step-step.ensures.limits given in
    omega (arith, some, c.step-step.ensures.used.1, taken_within c.args.limits c.args.bytes.now c.step-step.new.self later)

pub returns-in-Done-clause-undecided : goal.returns-in-Done-clause-undecided
returns-in-Done-clause-undecided c =
    let complete = (rw (c.in-Done.is) at c.step-step.ensures.stays.done.0) tt in
    let same = (c.step-step.ensures.stays.complete complete).1 in
    λ e. undecided_at_end c.args.limits c.args.bytes.now c.events.machine c.events.invariant complete (rw (c.taken-in-Done.ensures.taken, same) at e)

pub returns-in-Done-clause-decided : goal.returns-in-Done-clause-decided
returns-in-Done-clause-decided c =
    let complete = (rw (c.in-Done.is) at c.step-step.ensures.stays.done.0) tt in
    let same = (c.step-step.ensures.stays.complete complete).1 in
    λ e. decided_at_end c.args.limits c.args.bytes.now c.events.machine c.events.invariant complete (rw (c.taken-in-Done.ensures.taken, same) at e)

pub returns-in-More-clause-undecided : goal.returns-in-More-clause-undecided
returns-in-More-clause-undecided c =
    let h = c.events.invariant in
    let now = rw (c.in-More.is) at (c.step-step.ensures.returned h.taken h.marks h.agrees) in
    let more = (rw (c.in-More.is) at c.step-step.ensures.more) tt in
    λ e. undecided_within c.args.limits c.args.bytes.now c.events.machine h c.step-step.new.self c.taken.result c.taken.ensures.taken c.step-step.result.used
    c.step-step.ensures.limits now more.0 more.1 more.3

pub returns-in-Refused-clause-decided : goal.returns-in-Refused-clause-decided
returns-in-Refused-clause-decided c =
    let h = c.events.invariant in
    let refused = rw (c.in-Refused.is) at (c.step-step.ensures.returned h.taken h.marks h.agrees) in
    let reason = rw (c.in-Refused.is) at c.step-step.ensures.refused in
    λ e. decided_by_refusal c.args.limits c.args.bytes.now c.events.machine h c.step-step.new.self c.taken.result c.taken.ensures.taken c.step-step.result.used c.in-Refused.field-0
    c.step-step.ensures.limits refused reason.2
