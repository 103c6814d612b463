use Rattle.std.proofs.Common.{◌-◌, ◌∷◌, length, length-take, take, get_or, map, refl, sym, subst, arith, IsPermutation}
use Rattle.std.proofs.lemmas.List.{drop_all, Sorted.IsPermutation-insert}
use Rattle.theory_values.{proofs.KeyByteLists.are_bytes, proofs.Orders.tied, specs.Pairs.IsRising}
use Rattle.cbor_builder.proofs.Inserted.{AreAbove, AreBelow, free_place, set_free, above_more, none_below, below_all, inserted_rises, has_key_at, visited, less_key, greater_key}
use Rattle.cbor_builder.proofs.insertion.insert.Goals as goal
use Rattle.cbor_builder.specs.inner.{Spans.span_pair, Spans.no_span, Prefix.key_of, Prefix.at_start}
use Rattle.cbor_builder.proofs.insertion.insert.Goals.{else-loop-at-test, then-loop-at-test+in-Less}

pub loop-at-init : goal.loop-at-init
loop-at-init c =
    let us = c.args.places.now in
    let n = length us - 1 in
    let l = length-take n us in
    let place = free_place n us (omega (arith, c.requires.free)) in
    let none = drop_all n (at_start us) (omega (arith, l)) in
    (place.0, place.1, omega (arith, l), subst (AreAbove c.args.order c.args.bytes.now c.args.next.now) (sym none) tt)

pub returns-in-Equal-clause-permuted : goal.returns-in-Equal-clause-permuted
returns-in-Equal-clause-permuted c =
    let i = c.loop-at.invariant in
    coe 1 0 (k. IsPermutation (c.args.next.now ∷ at_start c.args.places.now) (set_free _ c.loop-at.places c.loop-at.at i.0 c.args.next.now i.1 i.2 k)) (IsPermutation-insert _ c.loop-at.at c.args.next.now)

pub returns-in-Equal-clause-equal : goal.returns-in-Equal-clause-equal
returns-in-Equal-clause-equal c = λ t.
    let bytes = c.args.bytes.now in
    let i = c.loop-at.invariant in
    let s = get_or c.loop-at.places (c.loop-at.at - 1) no_span in
    let e = visited c.args.order bytes _ c.loop-at.places c.loop-at.at (c.loop-at.at - 1) i.0 s c.args.next.now _ (are_bytes bytes (λ i. omega (arith, c.type_inv.bytes i))) c.requires.prefixed c.requires.next (omega arith) i.2 i.1 refl c.in-Equal.ensures in
    has_key_at bytes (key_of bytes c.args.next.now) (at_start c.args.places.now) (c.loop-at.at - 1) s (omega (arith, i.2)) e.0 (tied c.args.order _ _ (sym e.1))

pub loop-at-preserved : goal.loop-at-preserved
loop-at-preserved c =
    let bytes = c.args.bytes.now in
    let i = c.loop-at.invariant in
    let s = get_or c.loop-at.places (c.loop-at.at - 1) no_span in
    let e = visited c.args.order bytes _ c.loop-at.places c.loop-at.at (c.loop-at.at - 1) i.0 s c.args.next.now _ (are_bytes bytes (λ i. omega (arith, c.type_inv.bytes i))) c.requires.prefixed c.requires.next (omega arith) i.2 i.1 refl c.in-Greater.ensures in
    (s, e.2, omega (arith, i.2), above_more c.args.order bytes c.args.next.now _ c.loop-at.at (c.loop-at.at - 1) s (omega arith) (omega (arith, i.2)) e.0 (greater_key c.args.order _ _ e.1) i.3)

pub returns-clause-permuted : goal.returns-clause-permuted
returns-clause-permuted c =
    let i = c.loop-at.invariant in
    coe 1 0 (k. IsPermutation (c.args.next.now ∷ at_start c.args.places.now) (set_free _ c.loop-at.places c.loop-at.at i.0 c.args.next.now i.1 i.2 k)) (IsPermutation-insert _ c.loop-at.at c.args.next.now)

pub returns-clause-rising : goal.returns-clause-rising
returns-clause-rising c = λ t.
    let prefix = at_start c.args.places.now in
    let o = c.args.order in
    let bytes = c.args.bytes.now in
    let next = c.args.next.now in
    let i = c.loop-at.invariant in
    let below : AreBelow o bytes next (take c.loop-at.at prefix) = elim c.loop-at-test.branch [
      | else-loop-at-test w ↦ none_below o bytes next prefix c.loop-at.at (omega (arith, w.loop-at-test))
      | then-loop-at-test+in-Less w ↦
          let n = c.loop-at.at - 1 in
          let s = get_or c.loop-at.places n no_span in
          let e = visited o bytes prefix c.loop-at.places c.loop-at.at n i.0 s next _ (are_bytes bytes (λ i. omega (arith, c.type_inv.bytes i))) c.requires.prefixed c.requires.next (omega (arith, w.loop-at-test)) i.2 i.1 refl w.in-Less.ensures in
          below_all o bytes next prefix c.loop-at.at n s (omega (arith, w.loop-at-test)) (omega (arith, i.2, w.loop-at-test)) e.0 (less_key o _ _ e.1) c.requires.rising
    ] in
    coe 1 0 (k. IsRising o (map (span_pair bytes) (set_free prefix c.loop-at.places c.loop-at.at i.0 next i.1 i.2 k))) (inserted_rises o bytes next prefix c.loop-at.at c.requires.rising below i.3)
