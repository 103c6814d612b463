use Rattle.std.proofs.Common.{◌≡◌, ◌+◌, ◌-◌, length, length-drop, drop, get_or, ◌∙◌, ap, sym, subst, arith}
use Rattle.std.{proofs.lemmas.List.get_or-drop, specs.Ordering.is_lt, proofs.lemmas.Option.get_or_from_slice_get}
use Rattle.theory_values.proofs.KeyByteLists.{are_bytes}
use Rattle.cbor_builder.proofs.member.is_above.Goals as goal
use Rattle.cbor_builder.{proofs.ByIndex.all_index, specs.inner.Prefix.IsPrefixed, proofs.Ranks.agree_spans, proofs.Inserted.above_last}

pub returns-in-Some : goal.returns-in-Some
returns-in-Some c = λ t r.
    let ss = c.args.spans.now in
    let us = drop c.args.first ss in
    let last = c.in-Some.last.now in
    let n = length ss - 1 - c.args.first in
    let e = get_or_from_slice_get ss (length ss - 1) last last (sym c.in-Some.ensures.value) in
    let b = are_bytes c.args.bytes.now (λ i. omega (arith, c.type_inv.bytes i)) in
    let following = length-drop c.args.first ss in
    let at : c.args.first + n ≡ length ss - 1 = omega arith in
    let found = get_or-drop c.args.first ss n last ∙ ap (λ k. get_or ss k last) at ∙ e in
    let prefixed = subst (IsPrefixed c.args.bytes.now) found (all_index _ us n last c.requires.prefixed (omega (arith, following))) in
    above_last c.args.order c.args.bytes.now us n last c.args.next.now (omega (arith, following)) (sym found)
    (sym (ap is_lt (agree_spans c.args.order c.args.bytes.now last c.args.next.now b prefixed c.requires.next)) ∙ sym (ap is_lt c.compare.ensures) ∙ sym c.is_lt.ensures ∙ t) r
