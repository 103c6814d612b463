use Rattle.std.proofs.Common.{◌∙◌, arith, flat_map}
use Rattle.std.proofs.lemmas.List.{take_rest}
use Rattle.cbor_head.specs.Canonical.{canonical, canonical_entries}
use Rattle.theory_values.specs.Pairs.{pair_bytes}
use Rattle.cbor_cursor.proofs.map_pairs.first_pair.Goals as goal
use Rattle.cbor_cursor.proofs.{SpelledItems.canonical_item, SpelledItems.later_item, Slices.prefix_of, Slices.between, ItemParts.first_pair}

pub returns-in_err-value-clause-pair : goal.returns-in_err-value-clause-pair
returns-in_err-value-clause-pair c = λ o a.
    let n = first_pair o c.args.bytes.now c.args.count c.if-count-eq0.false a in
    absurd (c.in_err-value.ensures.item _ (canonical_item o n.k _ _ n.key_begins))

pub returns-in_err-end-clause-pair : goal.returns-in_err-end-clause-pair
returns-in_err-end-clause-pair c = λ o a.
    let n = first_pair o c.args.bytes.now c.args.count c.if-count-eq0.false a in
    let k = (c.in_ok-value.ensures.item _).0 (canonical_item o n.k _ _ n.key_begins) in
    absurd (c.in_err-end.ensures.item _ (later_item o n.v _ _ _ k n.value_begins))

pub returns-clause-pair : goal.returns-clause-pair
returns-clause-pair c = λ o a.
    let bytes = c.args.bytes.now in
    let n = first_pair o bytes c.args.count c.if-count-eq0.false a in
    let rest = flat_map pair_bytes (canonical_entries o n.es) in
    let k = (c.in_ok-value.ensures.item _).0 (canonical_item o n.k _ _ n.key_begins) in
    let v = (c.in_ok-end.ensures.item _).0 (later_item o n.v _ _ _ k n.value_begins) in
    let w = c.in_ok-end.ensures.within in
    n.finish _ _ _
    (prefix_of bytes c.in_ok-value.value (canonical o n.k) n.after_key c.in_ok-value.ensures.within.1 n.key_begins.begins k)
    (between bytes c.in_ok-value.value c.in_ok-end.end (canonical o n.v) rest (omega (arith, w)) w.1 (k ∙ n.value_begins.begins) v)
    (take_rest bytes c.in_ok-end.end ∙ v)
