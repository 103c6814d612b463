use Rattle.std.proofs.Common.{◌≡◌, ◌≢◌, ◌-◌, suc, inl, inr, sym, ap, ◌∙◌, subst, arith}
use Rattle.std.proofs.lemmas.Bool.{cases_lt}
use Rattle.theory_values.proofs.{Decided.holds, Decided.fails, KeyByteLists.are_bytes}
use Rattle.cbor_builder.proofs.sort.differ.Goals as goal
use Rattle.cbor_builder.{specs.inner.Prefix.key_of, specs.inner.Repeats.nth, proofs.Ranks.compared}

pub returns-then-is_eq : goal.returns-then-is_eq
returns-then-is_eq c =
    let out = c.args.bytes.now in
    let ss = c.args.spans.now in
    let i = c.loop-i.i in
    let next : i ≡ suc (i - 1) = omega arith in
    let keys = compared c.args.order out ss (i - 1) i _ _ c.compare.result (are_bytes out (λ i. omega (arith, c.type_inv.bytes i))) c.requires (omega arith) (omega arith) c.compare.ensures in
    fails (λ d. d (i - 1) (omega arith) (keys.0 (sym c.is_eq.ensures ∙ c.if-is_eq.true) ∙ ap (λ j. key_of out (nth ss j)) next))

pub loop-i-preserved : goal.loop-i-preserved
loop-i-preserved c = λ k l.
    let out = c.args.bytes.now in
    let ss = c.args.spans.now in
    let i = c.loop-i.i in
    let keys = compared c.args.order out ss (i - 1) i _ _ c.compare.result (are_bytes out (λ i. omega (arith, c.type_inv.bytes i))) c.requires (omega arith) (omega arith) c.compare.ensures in
    elim (cases_lt (suc k) i) [
      | inl g ↦ c.loop-i.invariant k g
      | inr g ↦
          let last : i ≡ suc k = omega (arith, l, g) in
          let before : i - 1 ≡ k = omega (arith, l, g) in
          subst (λ j. key_of out (nth ss k) ≢ key_of out (nth ss j)) last (subst (λ j. key_of out (nth ss j) ≢ key_of out (nth ss i)) before (keys.1 (sym c.is_eq.ensures ∙ c.if-is_eq.false)))
    ]

pub returns : goal.returns
returns c = holds (λ k l. c.loop-i.invariant k (omega (arith, l, c.loop-i-test.false)))
