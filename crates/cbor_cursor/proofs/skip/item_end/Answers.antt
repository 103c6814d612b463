use Rattle.std.proofs.Common.{refl}
use Rattle.cbor_cursor.proofs.skip.item_end.Goals as goal
use Rattle.cbor_cursor.proofs.{SpelledItems.canonical_item, Slices.each_case}

pub returns-clause-item : goal.returns-clause-item
returns-clause-item c = λ o v rest b.
    each_case c.end_of.result (λ none. none rest (canonical_item o v _ rest b)) (λ end is. (is rest).0 (canonical_item o v _ rest b)) c.end_of.ensures.item

pub returns-clause-well_formed : goal.returns-clause-well_formed
returns-clause-well_formed c = each_case c.end_of.result (λ none. none) (λ end is. (is _).1 refl) c.end_of.ensures.item
