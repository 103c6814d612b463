-- Keys in the order of their bytes: equal ones are neighbours.
use Rattle.std.proofs.Common.{◌≡◌, ℕ, zero, suc, ◌+◌, List, [], ◌∷◌, get_or, map, true, false, refl, sym, ap, subst, arith, inl, inr, IsPermutation, IsSortedBy, IsTrue}
use Rattle.std.specs.{Ordering.is_eq, declared.cmp.Ordering.Ordering, declared.cmp.Ordering.TheVariants.Equal}
use Rattle.std.proofs.lemmas.List.Sorted.{IsPermutation-sym, Contains-permutation}
use Rattle.cbor_head.specs.Prelude.{key_lt, Pair, in_order}
use Rattle.cbor_head.specs.declared.order.KeyOrder.{KeyOrder}
use Rattle.theory_values.proofs.Sorting.{rises_at, rising_cons, rising_unique, in_order_rising, in_order_in, in_in_order}
use Rattle.theory_values.{specs.Pairs.HasDistinctBytes, specs.Pairs.IsRising, proofs.Members.in_contains, proofs.Members.contains_in}
use Rattle.theory_values.proofs.Orders.{lt_trans, lt_other}
use Rattle.cbor_builder.specs.{inner.Spans.span_pair, declared.span.Span.Span, inner.Prefix.key_of, inner.Repeats.DoNeighboursDiffer}

abbrev pub keys : List Pair → List (List ℕ)
keys ps = map (λ (p : Pair). p.key) ps

pub keys-map : {X : Type 0} (view : X → Pair) (xs : List X) → keys (map view xs) ≡ map (λ x. (view x).key) xs
keys-map view [] = refl
keys-map view (x ∷ xs) = ap (λ (ks : List (List ℕ)). (view x).key ∷ ks) (keys-map view xs)

pub differ_from_distinct : (out : List ℕ) (ss : List Span) → HasDistinctBytes (map (span_pair out) ss) → DoNeighboursDiffer out ss
differ_from_distinct out (x ∷ y ∷ ss) d zero l e = d.0.0 (sym e)
differ_from_distinct out (x ∷ y ∷ ss) d (suc i) l e = differ_from_distinct out (y ∷ ss) d.1 i (omega (arith, l)) e
differ_from_distinct out ss d i l e = absurd (omega (arith, l))

pub rising_from_differ : (o : KeyOrder) (out : List ℕ) (ss : List Span) → IsSortedBy (λ x y. key_lt o (key_of out x) (key_of out y)) ss → DoNeighboursDiffer out ss → IsRising o (map (span_pair out) ss)
rising_from_differ o out [] s d = tt
rising_from_differ o out (x ∷ []) s d = (tt, tt)
rising_from_differ o out (x ∷ y ∷ ss) s d =
    let lt = λ (x y : Span). key_lt o (key_of out x) (key_of out y) in
    let rest = rising_from_differ o out (y ∷ ss) (λ k e l h. let w : suc (k + 1) ≡ suc k + 1 = omega arith in subst (λ (j : ℕ). lt (get_or (x ∷ y ∷ ss) j e) (get_or (y ∷ ss) k e) ≡ false) (sym w) (s (suc k) e (omega arith) (omega arith))) (λ i l. d (suc i) (omega (arith, l))) in
    let up : IsTrue (lt x y) = lt_other o (key_of out y) (key_of out x) (s 0 x (omega arith) (omega arith)) (d 0 (omega arith)) in
    let f = span_pair out in
    rising_cons o (f x) (map f (y ∷ ss)) (λ r m. elim m [
      | inl e ↦ subst (λ (t : Pair). IsTrue (key_lt o (key_of out x) t.key)) (sym e) up
      | inr n ↦ lt_trans o (key_of out x) (key_of out y) r.key up (rises_at o (f y) (map f ss) rest r n)
    ]) rest

pub is_tied : (r : Ordering) → is_eq r ≡ true → r ≡ Equal
is_tied Equal e = refl
is_tied r e = cc

-- a rising permutation of pairs whose keys differ is the list in order
pub rising_is_in_order : (o : KeyOrder) (ps qs : List Pair) → HasDistinctBytes ps → IsPermutation ps qs → IsRising o qs → qs ≡ in_order o ps
rising_is_in_order o ps qs d m r =
    rising_unique o qs (in_order o ps) r (in_order_rising o ps d) (λ p i. in_in_order o ps p (contains_in ps p (Contains-permutation qs ps p (IsPermutation-sym ps qs m) (in_contains qs p i))))
    (λ p i. contains_in qs p (Contains-permutation ps qs p m (in_contains ps p (in_order_in o ps p i))))
