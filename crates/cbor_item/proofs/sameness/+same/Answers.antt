use Rattle.std.proofs.Common.{◌≡◌, ◌↔◌, List, length, slice_range, inl, refl, sym, ◌∙◌, subst, arith}
use Rattle.cbor_head.specs.Value as value
use Rattle.cbor_head.specs.Prelude.{Value, Same, SameValues, Covered, IsValid, AreValid}
use Rattle.theory_values.proofs.Decided.{was_true, was_false, fails, unequal}
use Rattle.theory_values.proofs.Lists.{IsVisited, values_counted, entries_counted, valid_read, covered_on, covered_fail, visited_on, visited_after, visited_before}
use Rattle.theory_values.proofs.Sameness.{SameValues-count}
use Rattle.cbor_builder.proofs.ByIndex.{at_read}
use Rattle.cbor_item.proofs.sameness.+same.Goals as goal
use Rattle.cbor_item.proofs.{Counting.same_by_count, Sizes.member_fits, Sizes.pair_fits, Steps.range_step}
use Rattle.cbor_item.specs.Nodes.{entries_in, values_in}
use Rattle.cbor_item.proofs.sameness.+same.Goals.{find_between-else-is_same-via-then-is_same+else-is_same-2, find_between-else-is_same-via-else-is_same}

pub are_same-returns-then-xs-ys : goal.are_same-returns-then-xs-ys
are_same-returns-then-xs-ys g t c =
    let see = g.N.Node.value in
    let xs = c.args.xs.now in
    let ys = c.args.ys.now in
    fails (λ (h : SameValues (values_in see xs) (values_in see ys)).
    c.if-xs-ys.true (sym (values_counted see xs) ∙ SameValues-count (values_in see xs) (values_in see ys) h ∙ values_counted see ys))

pub are_same-is_same-requires : goal.are_same-is_same-requires
are_same-is_same-requires g t c κs within =
    let see = g.N.Node.value in
    let xs = c.args.xs.now in
    let ys = c.args.ys.now in
    let fits = member_fits see xs c.loop-i.i c.index-xs-i.result (omega arith) c.index-xs-i.is in
    let this = subst (λ (ns : List _). AreValid (values_in see ns)) (at_read xs c.loop-i.i c.index-xs-i.result (omega arith) c.index-xs-i.is) c.loop-i.invariant.these in
    let that = subst (λ (ns : List _). AreValid (values_in see ns)) (at_read ys c.loop-i.i c.index-ys-i.result (omega arith) c.index-ys-i.is) c.loop-i.invariant.those in
    (omega (arith, fits, c.decreases), (within, (this.0, that.0)))

pub is_covered-find-requires : goal.is_covered-find-requires
is_covered-find-requires g t c κs within =
    let see = g.N.Node.value in
    let xs = c.args.xs.now in
    let fits = pair_fits see xs c.loop-pair.pair-index c.pair-item.result (omega arith) c.pair-item.is in
    let valid = valid_read see xs c.loop-pair.pair-index c.pair-item.result c.requires.left (omega arith) c.pair-item.is in
    (omega (arith, fits, c.decreases), (within, (c.loop-pair.invariant.start, (valid.0, (valid.1, c.requires.right)))))

pub is_covered-returns-in-None : goal.is_covered-returns-in-None
is_covered-returns-in-None g t c =
    let see = g.N.Node.value in
    let l = c.loop-pair in
    let p = c.pair-item.result in
    fails (covered_fail see _ _ _ p _ (at_read c.args.xs.now l.pair-index p (omega arith) c.pair-item.is) l.invariant.left (λ m. absurd (cc (c.in-None.ensures.found.1 m))))

pub is_covered-loop-pair-preserved : goal.is_covered-loop-pair-preserved
is_covered-loop-pair-preserved g t c =
    let see = g.N.Node.value in
    let l = c.loop-pair in
    let p = c.pair-item.result in
    record {
      left = covered_on see _ _ _ p _ (at_read c.args.xs.now l.pair-index p (omega arith) c.pair-item.is) l.invariant.left (c.in-Some.ensures.found.0 refl);
      start = omega (arith, c.in-Some.ensures.place);
    }

pub find-returns-in-Some-clause-found : goal.find-returns-in-Some-clause-found
find-returns-in-Some-clause-found g t c =
    let see = g.N.Node.value in
    let ys = c.args.ys.now in
    ((λ e. visited_after see (c.args.key.now, c.args.value.now) ys c.args.start (length ys) refl (c.in-Some.ensures.found.0 refl)), (λ m. refl))

pub find-returns-in-None-clause-found : goal.find-returns-in-None-clause-found
find-returns-in-None-clause-found g t c =
    let see = g.N.Node.value in
    let ys = c.args.ys.now in
    let whole = visited_before see (c.args.key.now, c.args.value.now) ys c.args.start (length ys) refl (λ m. absurd (cc (c.in-None.ensures.found.1 m))) in
    let before = c.find_between-in-None.ensures.found in
    ((λ e. whole.0 (before.0 e)), (λ m. before.1 (whole.1 m)))

pub find_between-is_same-requires : goal.find_between-is_same-requires
find_between-is_same-requires g t c κs within =
    let see = g.N.Node.value in
    let q = valid_read see c.args.ys.now c.loop-place.place c.index-ys-place.result c.requires.right (omega arith) c.index-ys-place.is in
    (omega (arith, c.decreases), (within, (c.requires.key, q.0)))

pub find_between-is_same-requires-then-is_same : goal.find_between-is_same-requires-then-is_same
find_between-is_same-requires-then-is_same g t c κs within =
    let see = g.N.Node.value in
    let q = valid_read see c.args.ys.now c.loop-place.place c.index-ys-place.result c.requires.right (omega arith) c.index-ys-place.is in
    (omega (arith, c.decreases), (within, (c.requires.value, q.1)))

pub find_between-returns-then-is_same-2-clause-found : goal.find_between-returns-then-is_same-2-clause-found
find_between-returns-then-is_same-2-clause-found g t c =
    let see = g.N.Node.value in
    let p : g.row.N.Denot × g.row.N.Denot = (c.args.key.now, c.args.value.now) in
    let ys = c.args.ys.now in
    let visited = c.loop-place.invariant.1 (coe 1 0 (i. IsVisited see p (range_step ys c.loop-place.place c.args.to c.index-ys-place.result (omega arith) c.requires.to c.index-ys-place.is i)) (inl (was_true c.is_same.result c.if-is_same.true c.is_same.ensures, was_true c.is_same-then-is_same.result c.if-is_same-2.true c.is_same-then-is_same.ensures))) in
    ((λ s. visited), (λ m. refl))

pub find_between-loop-place-preserved : goal.find_between-loop-place-preserved
find_between-loop-place-preserved g t c =
    let see = g.N.Node.value in
    let p : g.row.N.Denot × g.row.N.Denot = (c.args.key.now, c.args.value.now) in
    let ys = c.args.ys.now in
    visited_on see (IsVisited see p (slice_range ys c.args.from c.args.to)) p _ c.index-ys-place.result _ (range_step ys c.loop-place.place c.args.to c.index-ys-place.result (omega arith) c.requires.to c.index-ys-place.is) c.loop-place.invariant
    (λ s. elim c.else-is_same.branch [
      | find_between-else-is_same-via-then-is_same+else-is_same-2 w ↦ was_false w.is_same-then-is_same.result w.if-is_same-2.false w.is_same-then-is_same.ensures s.1
      | find_between-else-is_same-via-else-is_same w ↦ was_false c.is_same.result w.if-is_same.false c.is_same.ensures s.0
    ])

maps_same : {N : Type 0} (see : N → Value) (v w : Value) (xs ys : List (N × N)) → value.map (entries_in see xs) ≡ v → value.map (entries_in see ys) ≡ w → IsValid v → IsValid w
    → Same v w ↔ ((length xs ≡ length ys) × Covered (entries_in see xs) (entries_in see ys))
maps_same see v w xs ys a b h k =
    coe 0 1 (i. Same (a i) (b i) ↔ ((entries_counted see xs i ≡ entries_counted see ys i) × Covered (entries_in see xs) (entries_in see ys))) (same_by_count (entries_in see xs) (entries_in see ys) (subst IsValid (sym a) h).1 (subst IsValid (sym b) k).1)

pub is_same-returns-then-xs-ys : goal.is_same-returns-then-xs-ys
is_same-returns-then-xs-ys g t c =
    let m = c.in-Map-Map in
    let same = maps_same g.N.Node.value _ _ m.xs.now m.ys.now m.ensures.value m.ensures'.value c.requires.left c.requires.right in
    (λ t. same.1 (c.if-xs-ys.true, c.is_covered.ensures.0 t), λ s. c.is_covered.ensures.1 (same.0 s).1)

pub is_same-returns-else-xs-ys : goal.is_same-returns-else-xs-ys
is_same-returns-else-xs-ys g t c =
    let m = c.in-Map-Map in
    let same = maps_same g.N.Node.value _ _ m.xs.now m.ys.now m.ensures.value m.ensures'.value c.requires.left c.requires.right in
    (λ t. absurd (unequal _ _ c.if-xs-ys.false t), λ s. absurd (c.if-xs-ys.false (same.0 s).0))
