use Rattle.cbor_cursor.proofs.skip.end_of.Goals as goal
use Rattle.cbor_cursor.proofs.ItemsAt.{no_head}

pub returns-in_err-head-clause-item : goal.returns-in_err-head-clause-item
returns-in_err-head-clause-item c = rw c.from_residual.ensures (λ rest i. no_head _ rest c.in_err-head.ensures.head i)

pub returns-clause-item : goal.returns-clause-item
returns-clause-item c = c.end_after.ensures.item _ c.in_ok-head.ensures.head
