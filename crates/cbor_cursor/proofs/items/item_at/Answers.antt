use Rattle.std.proofs.Common.{refl}
use Rattle.cbor_cursor.proofs.items.item_at.Goals as goal
use Rattle.cbor_cursor.proofs.{HeadsAt.same_head, ItemsAt.no_head, SpelledItems.canonical_head, SpelledItems.canonical_item}

pub returns-in_err-head-clause-item : goal.returns-in_err-head-clause-item
returns-in_err-head-clause-item c = λ o v rest b. absurd (c.in_err-head.ensures.head _ _ _ (canonical_head o v _ rest b))

pub returns-in_err-head-clause-well_formed : goal.returns-in_err-head-clause-well_formed
returns-in_err-head-clause-well_formed c = rw c.from_residual.ensures (λ rest i. no_head _ rest c.in_err-head.ensures.head i)

pub returns-in_err-end-clause-item : goal.returns-in_err-end-clause-item
returns-in_err-end-clause-item c = λ o v rest b. absurd (c.in_err-end.ensures.item _ c.in_ok-head.ensures.head rest (canonical_item o v _ rest b))

pub returns-in_err-end-clause-well_formed : goal.returns-in_err-end-clause-well_formed
returns-in_err-end-clause-well_formed c = rw c.from_residual-in_err-end.ensures (c.in_err-end.ensures.item _ c.in_ok-head.ensures.head)

pub returns-clause-item : goal.returns-clause-item
returns-clause-item c = λ o v rest b.
    let h = same_head _ _ _ _ _ _ _ c.in_ok-head.ensures.head (canonical_head o v _ rest b) in
    record {
      starts = b;
      head = record { kind_is = h.0; argument_is = h.1; content_is = h.2 };
      ends = (c.in_ok-end.ensures.item _ c.in_ok-head.ensures.head rest).0 (canonical_item o v _ rest b);
    }

pub returns-clause-well_formed : goal.returns-clause-well_formed
returns-clause-well_formed c = (c.in_ok-head.ensures.head, (c.in_ok-end.ensures.item _ c.in_ok-head.ensures.head _).1 refl)
