use Rattle.cbor_cursor.proofs.heads.head_at.Goals as goal
use Rattle.cbor_cursor.proofs.{HeadsAt.same_head, SpelledItems.canonical_head, Slices.each_case}

pub returns-clause-item : goal.returns-clause-item
returns-clause-item c = λ o v rest b.
    each_case c.definite_head.result (λ none. none _ _ _ (canonical_head o v _ rest b))
    (λ h at. let f = same_head _ _ _ _ _ _ _ at (canonical_head o v _ rest b) in record { kind_is = f.0; argument_is = f.1; content_is = f.2 }) c.definite_head.ensures.head
