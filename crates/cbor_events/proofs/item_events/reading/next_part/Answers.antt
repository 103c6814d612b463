use Rattle.std.proofs.Common.{[], ◌++◌, ◌∙◌}
use Rattle.cbor_events.proofs.Parts.{given-on, reported-given, silent-on}
use Rattle.cbor_events.proofs.item_events.reading.next_part.Goals as goal

pub returns-then-want-eq0-clause-returned : goal.returns-then-want-eq0-clause-returned
returns-then-want-eq0-clause-returned g c = c.next_event.ensures.returned

pub returns-in-Reported-clause-returned : goal.returns-in-Reported-clause-returned
returns-in-Reported-clause-returned g c = λ was from kept t ms h r d. c.in-Reported.ensures.returned was from kept t ms h r d

pub returns-in-Stopped-clause-returned : goal.returns-in-Stopped-clause-returned
returns-in-Stopped-clause-returned g c = λ was from kept t ms h r d. c.in-Stopped.ensures.returned was from kept t ms h r d

pub returns-in-Open-clause-returned : goal.returns-in-Open-clause-returned
returns-in-Open-clause-returned g c = λ was from kept t ms h r d.
    c.next_event-in-Open.ensures.returned was from kept t ms h (c.in-Open.ensures.returned was from [] t ms h r d) (c.read_part.ensures.limits.depth ∙ d)

pub returns-in-Reported-clause-given : goal.returns-in-Reported-clause-given
returns-in-Reported-clause-given g c = λ t ms h. reported-given c.in-Reported.event _ _ _ _ _ _ t ms (c.in-Reported.ensures.lost t ms h)

pub returns-in-Open-clause-given : goal.returns-in-Open-clause-given
returns-in-Open-clause-given g c = λ t ms h.
    let was = silent-on _ _ _ _ _ _ t ms (c.in-Open.ensures.lost t ms h) in
    given-on c.next_event-in-Open.result _ t was.0 ms (c.next_event-in-Open.ensures.given (t ++ was.0) ms was.1)
