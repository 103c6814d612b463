use Rattle.std.proofs.Common.{◌++◌, ℕ, List, Some, sym, ap, ◌∙◌, subst, arith}
use Rattle.cbor_head.specs.{Canonical.canonical, Value.Value}
use Rattle.theory_values.specs.Lookup.{member_of}
use Rattle.cbor_cursor.proofs.ItemParts.{array_content, at_index, no_member_at}
use Rattle.cbor_cursor.proofs.array_members.member_at.Goals as goal
use Rattle.cbor_cursor.{specs.WellFormed.BeginsWithItems, proofs.SpelledItems.canonical_item, proofs.Slices.between, proofs.NormalValues.part}
use Rattle.cbor_cursor.specs.Items.{BeginsWith}

pub returns-then-index-count : goal.returns-then-index-count
returns-then-index-count c = λ o i.
    let f = c.in_ok-content.ensures o i in
    let a = array_content o c.args.bytes.now c.in_ok-content.content.now c.in_ok-content.count i f.0 f.1 f.2 in
    ap (λ (v : Value). member_of v c.args.index) a.is ∙ no_member_at a.vs c.args.index (omega (arith, a.count_is, c.if-index-count.true))

pub returns-in_err-start : goal.returns-in_err-start
returns-in_err-start c = λ o i.
    let f = c.in_ok-content.ensures o i in
    let a = array_content o c.args.bytes.now c.in_ok-content.content.now c.in_ok-content.count i f.0 f.1 f.2 in
    let x = at_index o a.vs c.args.index a.range a.valid a.normal_are (omega (arith, a.count_is, c.if-index-count.false)) in
    absurd (c.in_err-start.ensures.items (canonical o x.v ++ x.rest) (subst (λ (l : List ℕ). BeginsWithItems c.args.index l (canonical o x.v ++ x.rest)) (sym a.bytes_are) x.before))

pub returns-in_err-end : goal.returns-in_err-end
returns-in_err-end c = λ o i.
    let f = c.in_ok-content.ensures o i in
    let a = array_content o c.args.bytes.now c.in_ok-content.content.now c.in_ok-content.count i f.0 f.1 f.2 in
    let x = at_index o a.vs c.args.index a.range a.valid a.normal_are (omega (arith, a.count_is, c.if-index-count.false)) in
    let s = (c.in_ok-start.ensures.items (canonical o x.v ++ x.rest)).0 (subst (λ (l : List ℕ). BeginsWithItems c.args.index l (canonical o x.v ++ x.rest)) (sym a.bytes_are) x.before) in
    let b : BeginsWith o _ x.v x.rest = record { range = x.range; valid = x.valid; begins = s } in
    absurd (c.in_err-end.ensures.item _ (canonical_item o x.v _ _ b))

pub returns : goal.returns
returns c = λ o i.
    let content = c.in_ok-content.content.now in
    let f = c.in_ok-content.ensures o i in
    let a = array_content o c.args.bytes.now content c.in_ok-content.count i f.0 f.1 f.2 in
    let x = at_index o a.vs c.args.index a.range a.valid a.normal_are (omega (arith, a.count_is, c.if-index-count.false)) in
    let s = (c.in_ok-start.ensures.items (canonical o x.v ++ x.rest)).0 (subst (λ (l : List ℕ). BeginsWithItems c.args.index l (canonical o x.v ++ x.rest)) (sym a.bytes_are) x.before) in
    let b : BeginsWith o _ x.v x.rest = record { range = x.range; valid = x.valid; begins = s } in
    let e = (c.in_ok-end.ensures.item _).0 (canonical_item o x.v _ _ b) in
    let w = c.in_ok-end.ensures.within in
    let cut = between content c.in_ok-start.start c.in_ok-end.end (canonical o x.v) x.rest (omega (arith, w)) w.1 s e in
    let p = part o x.v _ x.range x.valid x.normal_is cut in
    (p.canonical_is, ap (λ (v : Value). member_of v c.args.index) a.is ∙ x.is ∙ ap (λ (v : Value). Some v) (sym p.value_is))
