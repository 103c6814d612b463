use Rattle.std.proofs.Common.{◌≡◌, ◌+◌, ◌-◌, ◌≤◌, length, min, max, sym, ◌∙◌, subst, arith}
use Rattle.std.proofs.lemmas.Bool.{eqb-false}
use Rattle.theory_values.proofs.KeyByteLists.{are_bytes}
use Rattle.cbor_builder.specs.inner.Repeats.{IsFirstTie, IsLeastOfKey, IsFirstOf}
use Rattle.cbor_builder.proofs.Ties.{tie_alone, tie_passed, tie_visited}
use Rattle.cbor_builder.proofs.repeats.first_tie.Goals as goal
use Rattle.cbor_builder.{specs.declared.repeats.Tie.Tie, proofs.Ranks.compared}
use Rattle.cbor_builder.proofs.repeats.first_tie.Goals.{then-is_eq, else-is_eq}

pub loop-i-init : goal.loop-i-init
loop-i-init c =
    let alone = tie_alone c.args.bytes.now c.args.spans.now c.place-least.result c.place-least.ensures in
    (grind (arith, eqb-false (length c.args.spans.now) 0 (sym c.if-is_empty.ensures)), alone.0, alone.1)

pub loop-i-preserved : goal.loop-i-preserved
loop-i-preserved c =
    let out = c.args.bytes.now in
    let ss = c.args.spans.now in
    let i = c.loop-i.i in
    let keys = compared c.args.order out ss (i - 1) i _ _ c.compare.result (are_bytes out (λ i. omega (arith, c.type_inv.bytes i))) c.requires.prefixed (omega arith) (omega arith) c.compare.ensures in
    let within : i + 1 ≤ length ss = omega (arith, c.loop-i-test.true) in
    elim c.if-is_eq.branch [
      | then-is_eq w ↦
          let first : IsFirstOf c.loop-i.first (record { earlier = min c.loop-i.least c.place-here.result; later = max c.loop-i.least c.place-here.result }) w.first_of.result =
          subst (λ (t : Tie). IsFirstOf c.loop-i.first t w.first_of.result) (λ t. record { earlier = w.min-earlier.ensures t; later = w.max-later.ensures t }) w.first_of.ensures in
          let visited = tie_visited out ss i c.place-here.result c.loop-i.least c.loop-i.first w.first_of.result (keys.0 (sym c.is_eq.ensures ∙ w.if-is_eq.true)) c.place-here.ensures c.loop-i.invariant.2 c.loop-i.invariant.1 first in
          (within, subst (IsFirstTie out ss (i + 1)) (sym w.first-is) visited.0, subst (IsLeastOfKey out ss (i + 1) _) (sym (w.least-is ∙ w.min-earlier.ensures)) visited.1)
      | else-is_eq w ↦
          let passed = tie_passed out ss i c.place-here.result c.loop-i.first c.requires.grouped (omega arith) c.loop-i-test.true (keys.1 (sym c.is_eq.ensures ∙ w.if-is_eq.false)) c.place-here.ensures c.loop-i.invariant.1 in
          (within, subst (IsFirstTie out ss (i + 1)) (sym w.first-is) passed.0, subst (IsLeastOfKey out ss (i + 1) _) (sym w.least-is) passed.1)
    ]

pub returns : goal.returns
returns c =
    let all : c.loop-i.i ≡ length c.args.spans.now = omega arith in
    subst (λ n. IsFirstTie c.args.bytes.now c.args.spans.now n c.loop-i.first) all c.loop-i.invariant.1
