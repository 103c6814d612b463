use Rattle.std.proofs.{Common.◌∙◌, lemmas.List.take_rest}
use Rattle.cbor_head.specs.Canonical.{canonical, canonical_all}
use Rattle.cbor_cursor.proofs.array_members.first_member.Goals as goal
use Rattle.cbor_cursor.proofs.{SpelledItems.canonical_item, Slices.prefix_of, ItemParts.first}

pub returns-in_err-end-clause-member : goal.returns-in_err-end-clause-member
returns-in_err-end-clause-member c = λ o a.
    let n = first o c.args.bytes.now c.args.count c.if-count-eq0.false a in
    absurd (c.in_err-end.ensures.item _ (canonical_item o n.v _ _ n.begins))

pub returns-clause-member : goal.returns-clause-member
returns-clause-member c = λ o a.
    let bytes = c.args.bytes.now in
    let n = first o bytes c.args.count c.if-count-eq0.false a in
    let e = (c.in_ok-end.ensures.item _).0 (canonical_item o n.v _ _ n.begins) in
    n.finish _ _ (prefix_of bytes c.in_ok-end.end (canonical o n.v) (canonical_all o n.vs) c.in_ok-end.ensures.within.1 n.begins.begins e) (take_rest bytes c.in_ok-end.end ∙ e)
