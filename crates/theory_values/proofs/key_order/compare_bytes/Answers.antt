use Rattle.std.proofs.Common.{◌≡◌, ◌⊎◌, ◌-◌, ◌+◌, length, sym, ◌∙◌, arith, inl, inr}
use Rattle.std.proofs.lemmas.Bool.{cases_lt}
use Rattle.theory_values.proofs.KeyWords.{word_more, word_decides, lengths_decide, begin_same}
use Rattle.theory_values.proofs.key_order.compare_bytes.Goals as goal
use Rattle.theory_values.proofs.KeyByteLists.{are_bytes}

pub returns-then-x-y : goal.returns-then-x-y
returns-then-x-y c =
    let h = are_bytes c.args.a.now (λ i. omega (arith, c.type_inv.a i)) in
    let g = are_bytes c.args.b.now (λ i. omega (arith, c.type_inv.b i)) in
    c.cmp.ensures ∙ word_decides c.loop-at.at c.args.a.now c.args.b.now c.word-x.result c.word-y.result h g (omega arith) (omega arith) c.loop-at.invariant c.word-x.ensures c.word-y.ensures c.if-x-y.true

pub loop-at-preserved : goal.loop-at-preserved
loop-at-preserved c =
    let h = are_bytes c.args.a.now (λ i. omega (arith, c.type_inv.a i)) in
    let g = are_bytes c.args.b.now (λ i. omega (arith, c.type_inv.b i)) in
    word_more c.loop-at.at c.args.a.now c.args.b.now h g (omega arith) (omega arith) c.loop-at.invariant (sym c.word-x.ensures ∙ c.if-x-y.false ∙ c.word-y.ensures)

pub returns-then-a_last-b_last : goal.returns-then-a_last-b_last
returns-then-a_last-b_last c =
    let h = are_bytes c.args.a.now (λ i. omega (arith, c.type_inv.a i)) in
    let g = are_bytes c.args.b.now (λ i. omega (arith, c.type_inv.b i)) in
    let last = c.min-shared.result - 8 in
    let same = begin_same last c.loop-at.at c.args.a.now c.args.b.now (omega arith) c.loop-at.invariant in
    c.cmp-then-a_last-b_last.ensures ∙ word_decides last c.args.a.now c.args.b.now c.word-a_last.result c.word-b_last.result h g (omega arith) (omega arith) same c.word-a_last.ensures c.word-b_last.ensures c.if-a_last-b_last.true

pub returns : goal.returns
returns c =
    let a = c.args.a.now in
    let b = c.args.b.now in
    let h = are_bytes a (λ i. omega (arith, c.type_inv.a i)) in
    let g = are_bytes b (λ i. omega (arith, c.type_inv.b i)) in
    let last = c.min-shared.result - 8 in
    let same = begin_same last c.loop-at.at a b (omega arith) c.loop-at.invariant in
    let all = word_more last a b h g (omega arith) (omega arith) same (sym c.word-a_last.ensures ∙ c.if-a_last-b_last.false ∙ c.word-b_last.ensures) in
    let end : (length a ≡ last + 8) ⊎ (length b ≡ last + 8) = elim (cases_lt (length a) (length b)) [ inl p ↦ inl (omega arith) | inr p ↦ inr (omega arith) ] in
    c.cmp-2.ensures ∙ lengths_decide (last + 8) a b all (omega arith) (omega arith) end
