use Rattle.std.proofs.Common.{refl, sym, ◌∙◌, subst}
use Rattle.std.proofs.lemmas.List.{take_rest}
use Rattle.cbor_cursor.proofs.skip.skip_item.Goals as goal
use Rattle.cbor_cursor.{specs.WellFormed.BeginsWithItem, proofs.SpelledItems.canonical_item}

pub returns-in_err-end-clause-item : goal.returns-in_err-end-clause-item
returns-in_err-end-clause-item c = λ o v rest b. absurd (c.in_err-end.ensures.item rest (canonical_item o v _ rest b))

pub returns-clause-item : goal.returns-clause-item
returns-clause-item c = λ o v rest b. take_rest c.args.bytes.now c.in_ok-end.end ∙ (c.in_ok-end.ensures.item rest).0 (canonical_item o v _ rest b)

pub returns-clause-well_formed : goal.returns-clause-well_formed
returns-clause-well_formed c = subst (BeginsWithItem c.args.bytes.now) (sym (take_rest c.args.bytes.now c.in_ok-end.end)) ((c.in_ok-end.ensures.item _).1 refl)
