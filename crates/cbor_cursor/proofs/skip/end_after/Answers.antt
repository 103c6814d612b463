use Rattle.cbor_cursor.proofs.skip.end_after.Goals as goal
use Rattle.cbor_cursor.{specs.WellFormed.none, proofs.ItemsAt.no_more, proofs.Slices.each_case}

pub returns-in_err-step-clause-item : goal.returns-in_err-step-clause-item
returns-in_err-step-clause-item c = λ start h. rw c.from_residual.ensures (c.in_err-step.ensures.item start h)

pub returns-then-step-eq0-clause-item : goal.returns-then-step-eq0-clause-item
returns-then-step-eq0-clause-item c = λ start h rest.
    let s = c.in_ok-step.ensures.item start h rest in
    (λ i. no_more _ _ rest c.if-step-eq0.true (s.0 i), λ e. s.1 (none _ _ rest c.if-step-eq0.true e))

pub returns-clause-item : goal.returns-clause-item
returns-clause-item c = λ start h.
    each_case c.items_end.result (λ n rest i. n rest ((c.in_ok-step.ensures.item start h rest).0 i))
    (λ end is rest. (λ i. (is rest).0 ((c.in_ok-step.ensures.item start h rest).0 i), λ e. (c.in_ok-step.ensures.item start h rest).1 ((is rest).1 e)))
    c.items_end.ensures.items
