use Rattle.std.proofs.Common.{ℕ, List, ◌≡◌, ◌↔◌, ◌+◌, ◌-◌, ◌<◌, length-drop, arith, refl, subst}
use Rattle.cbor_cursor.specs.WellFormed.{BeginsWithItem, BeginsWithItems, none, more}
use Rattle.cbor_cursor.proofs.ItemsAt.{cut, joined, first_item, items_fit, no_head, no_more}
use Rattle.cbor_cursor.proofs.skip.items_end.Goals as goal
use Rattle.cbor_cursor.proofs.skip.items_end.Goals.{then-step-space-via-then-step-space, then-step-space-via-else-step-space+then-left-space}

-- the first of some items by its head: the items inside it come before the others
opened : (n k left : ℕ) (here after rest : List ℕ) → 0 < n → left ≡ k + (n - 1) → ((middle : List ℕ) → BeginsWithItem here middle ↔ BeginsWithItems k after middle) → BeginsWithItems n here rest ↔ BeginsWithItems left after rest
opened n k left here after rest l e step = (
  λ a. (
      let f = first_item n here rest l a in
      subst (λ (x : ℕ). BeginsWithItems x after rest) (omega (arith, e)) (joined k (n - 1) after f.middle rest ((step f.middle).0 f.first) f.others)),
  λ a. (
      let c = cut k (n - 1) after rest (subst (λ (x : ℕ). BeginsWithItems x after rest) e a) in
      more n (n - 1) here c.middle rest (omega (arith, l)) ((step c.middle).1 c.first) c.others),
)

after_both : {A B C : Type 0} → (A ↔ B) → (B ↔ C) → (A ↔ C)
after_both f g = (λ a. g.0 (f.0 a), λ z. f.1 (g.1 z))

pub returns-in_err-head-clause-items : goal.returns-in_err-head-clause-items
returns-in_err-head-clause-items c = rw c.from_residual.ensures (λ rest a.
    let f = first_item _ _ rest c.loop-left-test.true ((c.loop-left.invariant.items rest).0 a) in
    no_head _ f.middle c.in_err-head.ensures.head f.first)

pub returns-in_err-step-clause-items : goal.returns-in_err-step-clause-items
returns-in_err-step-clause-items c = rw c.from_residual-in_err-step.ensures (λ rest a.
    let f = first_item _ _ rest c.loop-left-test.true ((c.loop-left.invariant.items rest).0 a) in
    c.in_err-step.ensures.item _ c.in_ok-head.ensures.head f.middle f.first)

pub returns-then-step-space-clause-items : goal.returns-then-step-space-clause-items
returns-then-step-space-clause-items c = λ rest a.
    let o = opened c.loop-left.left c.in_ok-step.step.items (c.in_ok-step.step.items + (c.loop-left.left - 1)) _ _ rest c.loop-left-test.true refl (c.in_ok-step.ensures.item _ c.in_ok-head.ensures.head) in
    let fits = items_fit _ _ rest (o.0 ((c.loop-left.invariant.items rest).0 a)) in
    let space = length-drop c.in_ok-step.step.end c.args.bytes.now in
    elim c.then-step-space.branch [ then-step-space-via-then-step-space w ↦ omega (arith, fits, space, w.if-step-space.true) | then-step-space-via-else-step-space+then-left-space w ↦ omega (arith, fits, space, w.if-left-space.true) ]

pub loop-left-preserved : goal.loop-left-preserved
loop-left-preserved c = record {
  items = λ rest. after_both (c.loop-left.invariant.items rest) (opened c.loop-left.left c.in_ok-step.step.items _ _ _ rest c.loop-left-test.true (omega arith) (c.in_ok-step.ensures.item _ c.in_ok-head.ensures.head));
  starts = omega (arith, c.loop-left.invariant.starts, c.in_ok-head.ensures.within, c.in_ok-step.ensures.within);
  ends = omega (arith, c.in_ok-step.ensures.within);
}

pub loop-left-preserved-then-step-eq0 : goal.loop-left-preserved-then-step-eq0
loop-left-preserved-then-step-eq0 c = record {
  items = λ rest. after_both (c.loop-left.invariant.items rest) (opened c.loop-left.left c.in_ok-step.step.items _ _ _ rest c.loop-left-test.true (omega (arith, c.if-step-eq0.true)) (c.in_ok-step.ensures.item _ c.in_ok-head.ensures.head));
  starts = omega (arith, c.loop-left.invariant.starts, c.in_ok-head.ensures.within, c.in_ok-step.ensures.within);
  ends = omega (arith, c.in_ok-step.ensures.within);
}

pub returns-clause-items : goal.returns-clause-items
returns-clause-items c = λ rest.
    let n : c.loop-left.left ≡ 0 = omega (arith, c.loop-left-test.false) in
    (λ a. no_more _ _ rest n ((c.loop-left.invariant.items rest).0 a), λ e. (c.loop-left.invariant.items rest).1 (none _ _ rest n e))
