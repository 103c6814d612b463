-- Pairs with equal keys among sorted spans.
use Rattle.std.proofs.Common.{◌≡◌, ◌≢◌, ℕ, ◌+◌, ◌-◌, ◌<◌, ◌≤◌, true, false, List, length, get_or, Option, Some, None, min, max, refl, sym, ap, ◌∙◌, subst, arith, inl, inr, ◌⊎◌, IsPermutation, IsSortedBy, IfSome}
use borrow.Author.Count.{below_more}
use Rattle.std.specs.declared.cmp.Ordering.TheVariants.{Less, Equal, Greater}
use Rattle.std.proofs.lemmas.List.Edits.{Swapped, swapped_from_swap, length-swap}
use Rattle.std.proofs.lemmas.List.Sorted.{IsPermutation-keeps, ranks_by, sorted_far}
use Rattle.std.specs.{List.swap, Ordering.is_lt, Ordering.ordering_reverse, declared.cmp.Ordering.Ordering}
use Rattle.std.proofs.lemmas.Bool.{cases_lt, cases_eq}
use Rattle.cbor_head.specs.{Prelude.key_cmp, Prelude.key_lt, declared.order.KeyOrder.KeyOrder}
use Rattle.theory_values.proofs.Orders.{key_cmp_total, tied}
use Rattle.cbor_builder.specs.inner.Repeats.{nth, place, AreGrouped, IsTie, HasTie, IsUpTo, IsFirstTie, IsFirstOf, IsLeastOfKey}
use Rattle.cbor_builder.specs.{inner.Spans.no_span, declared.span.Span.Span, inner.Prefix.key_of, declared.repeats.Tie.Tie}

-- ---- two of a list are found again in another order

module _ {X : Type 0} (d : X) (R : X → X → Type 0) where
  abbrev Two : List X → Type 0
  Two xs = (i : ℕ) × (j : ℕ) × (i < length xs) × (j < length xs) × (i ≢ j) × R (get_or xs i d) (get_or xs j d)

  -- the index of an element after those at a and b were exchanged
  moved_to : (f g : ℕ → X) (a b n i : ℕ) → Swapped f g a b → a < n → b < n → i < n → (j : ℕ) × (j < n) × (g j ≡ f i) × (i ≡ a → j ≡ b) × (i ≡ b → j ≡ a) × (i ≢ a → i ≢ b → j ≡ i)
  moved_to f g a b n i w la lb li = elim (cases_eq i a) [
    | inl ea ↦ (b, lb, w.1 ∙ ap f (sym ea), (λ e. refl), (λ e. sym e ∙ ea), (λ u v. absurd (u ea)))
    | inr na ↦ elim (cases_eq i b) [
      | inl eb ↦ (a, la, w.0 ∙ ap f (sym eb), (λ e. absurd (na e)), (λ e. refl), (λ u v. absurd (v eb)))
      | inr nb ↦ (i, li, w.2 i na nb, (λ e. absurd (na e)), (λ e. absurd (nb e)), (λ u v. refl))
    ]
  ]

  moved_apart : (a b i j k l : ℕ) → i ≢ j → (i ≡ a → k ≡ b) → (i ≡ b → k ≡ a) → (i ≢ a → i ≢ b → k ≡ i) → (j ≡ a → l ≡ b) → (j ≡ b → l ≡ a) → (j ≢ a → j ≢ b → l ≡ j) → k ≢ l
  moved_apart a b i j k l ne p q r x y z e = grind arith

  two_swapped : (xs : List X) (a b : ℕ) → a < length xs → b < length xs → Two xs → Two (swap xs a b)
  two_swapped xs a b la lb (i, j, li, lj, ne, r) =
      let f : ℕ → X = λ i. get_or xs i d in
      let g : ℕ → X = λ i. get_or (swap xs a b) i d in
      let w = swapped_from_swap xs (swap xs a b) a b d la lb refl in
      let long = length-swap xs a b in
      let k = moved_to f g a b (length xs) i w la lb li in
      let l = moved_to f g a b (length xs) j w la lb lj in
      (k.0, l.0, omega (arith, k.1, long), omega (arith, l.1, long), moved_apart a b i j k.0 l.0 ne k.3 k.4 k.5 l.3 l.4 l.5, subst (λ x. R x (g l.0)) (sym k.2) (subst (R (f i)) (sym l.2) r))

  pub two_permuted : (xs ys : List X) → IsPermutation xs ys → Two xs → Two ys
  two_permuted xs ys m t = IsPermutation-keeps xs Two t (λ xs a b la lb h. two_swapped xs a b la lb h) ys m

pub tie_permuted : (out : List ℕ) (xs ys : List Span) (earlier later : ℕ) → IsPermutation xs ys → HasTie out xs (length xs) earlier later → HasTie out ys (length ys) earlier later
tie_permuted out xs ys earlier later m (i, j, less, l, tie) =
    let (k, n, lk, ln, ne, (same, low, high)) = two_permuted no_span (IsTie out earlier later) xs ys m (i, j, omega (arith, less, l), l, (λ e. omega (arith, less, e)), tie) in
    elim (cases_lt k n) [ inl g ↦ (k, n, g, ln, (same, low, high)) | inr g ↦ (n, k, omega (arith, g, ne), lk, (sym same, omega (arith, low), omega (arith, high))) ]

-- ---- what a pass over sorted spans finds

-- equal keys are neighbours among sorted ones
pub grouped : (o : KeyOrder) (out : List ℕ) (ss : List Span) → IsSortedBy (λ x y. key_lt o (key_of out x) (key_of out y)) ss → AreGrouped out ss
grouped o out ss sorted i j k l m h same =
    let lt = λ (x y : Span). key_lt o (key_of out x) (key_of out y) in
    let ranks = ranks_by (key_cmp_total o) (key_of out) in
    let low = sorted_far lt ranks ss sorted i j no_span l (omega (arith, m, h)) in
    let high = sorted_far lt ranks ss sorted j k no_span m h in
    neither o (key_of out (nth ss j)) (key_of out (nth ss k)) (subst (λ q. key_lt o (key_of out (nth ss j)) q ≡ false) same low) high
  where
    -- neither of two keys is before the other
    neither : (o : KeyOrder) (x y : List ℕ) → key_lt o x y ≡ false → key_lt o y x ≡ false → x ≡ y
    neither o x y h g = go (key_cmp o x y) refl
      where
        go : (r : Ordering) → key_cmp o x y ≡ r → x ≡ y
        go Less e = let l : key_lt o x y ≡ true = ap is_lt e in cc
        go Equal e = tied o x y e
        go Greater e = let l : key_lt o y x ≡ true = ap is_lt ((key_cmp_total o).antisymm y x ∙ ap ordering_reverse e) in cc

-- lists with the same ties have the same first tie
pub first_same : (out : List ℕ) (xs ys : List Span) (n m : ℕ) (r : Option Tie) → ((earlier later : ℕ) → HasTie out xs n earlier later → HasTie out ys m earlier later)
    → ((earlier later : ℕ) → HasTie out ys m earlier later → HasTie out xs n earlier later) → IsFirstTie out xs n r → IsFirstTie out ys m r
first_same out xs ys n m None forth back h = λ earlier later t. h earlier later (back earlier later t)
first_same out xs ys n m (Some f) forth back h = (forth f.earlier f.later h.0, λ earlier later t. h.1 earlier later (back earlier later t))

up_to : (t : Tie) (a b earlier later : ℕ) → IsUpTo t a b → b ≤ later → (b ≡ later → a ≤ earlier) → IsUpTo t earlier later
up_to t a b earlier later u l k = (omega (arith, u.0, l), λ e. let same : b ≡ later = omega (arith, u.0, l, e) in let first = u.1 (e ∙ sym same) in omega (arith, first, k same))

module _ (out : List ℕ) (ss : List Span) where
  abbrev key : ℕ → List ℕ
  key i = key_of out (nth ss i)

  -- a single span
  pub tie_alone : (at : ℕ) → at ≡ place (nth ss 0) → IsFirstTie out ss 1 None × IsLeastOfKey out ss 1 (key 0) at
  tie_alone at is = ((λ earlier later t. omega (arith, t.2, t.3)), ((0, omega arith, refl, sym is), λ i l e. let none : 0 ≡ i = omega (arith, l) in omega (arith, is, ap (λ k. place (nth ss k)) none)))

  last : (n : ℕ) → n ≡ n + 1 - 1
  last n = omega arith

  longer : (n earlier later : ℕ) → HasTie out ss n earlier later → HasTie out ss (n + 1) earlier later
  longer n earlier later (i, j, less, l, tie) = (i, j, less, omega (arith, l), tie)

  -- with one more, a tie is one of those before or is made by it
  one_longer : (n earlier later : ℕ) → HasTie out ss (n + 1) earlier later → HasTie out ss n earlier later ⊎ ((i : ℕ) × (i < n) × IsTie out earlier later (nth ss i) (nth ss n))
  one_longer n earlier later (i, j, less, l, tie) = elim (cases_lt j n) [
    | inl k ↦ inl (i, j, less, k, tie)
    | inr k ↦ let e : j ≡ n = omega (arith, l, k) in inr (i, omega (arith, less, e), subst (λ m. IsTie out earlier later (nth ss i) (nth ss m)) e tie)
  ]

  -- the key at n differs from the one before it
  pub tie_passed : (n at : ℕ) (r : Option Tie) → AreGrouped out ss → 1 ≤ n → n < length ss → key (n - 1) ≢ key n → at ≡ place (nth ss n)
      → IsFirstTie out ss n r → IsFirstTie out ss (n + 1) r × IsLeastOfKey out ss (n + 1) (key (n + 1 - 1)) at
  tie_passed n at r group low l other is h = (
    first_same out ss ss n (n + 1) r (longer n) (λ earlier later t. elim (one_longer n earlier later t) [ inl old ↦ old | inr w ↦ absurd (alone w.0 w.1 w.2.0) ]) h,
    subst (λ k. IsLeastOfKey out ss (n + 1) (key k) at) (last n) ((n, omega arith, refl, sym is), below_more (λ i. key i ≡ key n → at ≤ place (nth ss i)) n (λ i g e. absurd (alone i g e)) (λ e. omega (arith, is))),
  )
    where
      alone : (i : ℕ) → i < n → key i ≡ key n → ⊥
      alone i g e = other (group i (n - 1) n (omega (arith, g)) (omega arith) l e)

  -- the key at n is the one before it
  pub tie_visited : (n at least : ℕ) (r : Option Tie) (t : Tie) → key (n - 1) ≡ key n → at ≡ place (nth ss n) → IsLeastOfKey out ss n (key (n - 1)) least
      → IsFirstTie out ss n r → IsFirstOf r (record { earlier = min least at; later = max least at }) t → IsFirstTie out ss (n + 1) (Some t) × IsLeastOfKey out ss (n + 1) (key (n + 1 - 1)) (min least at)
  tie_visited n at least r t same is ((q, lq, meets, lies), all) h (one, up, found) = (
    (
      elim one [
        | inl e ↦ longer n t.earlier t.later (subst (IsFirstTie out ss n) e h).0
        | inr e ↦ subst (λ (u : Tie). HasTie out ss (n + 1) u.earlier u.later) (sym e) (q, n, lq, omega arith, (meets ∙ same, omega (arith, lies, is), omega (arith, lies, is)))
      ],
      λ earlier later tie. elim (one_longer n earlier later tie) [
        | inl old ↦ first r h found earlier later old
        | inr w ↦
            let (i, l, (keys, low, high)) = w in
            let most = all i l (keys ∙ sym same) in up_to t (min least at) (max least at) earlier later up (omega (arith, most, low, high, is)) (λ s. omega (arith, most, low, is))
      ],
    ),
    subst (λ k. IsLeastOfKey out ss (n + 1) (key k) (min least at)) (last n) (
      elim (cases_lt at least) [ inl g ↦ (n, omega arith, refl, omega (arith, g, is)) | inr g ↦ (q, omega (arith, lq), meets ∙ same, omega (arith, g, lies)) ],
      below_more (λ i. key i ≡ key n → min least at ≤ place (nth ss i)) n (λ i g e. let w = all i g (e ∙ sym same) in omega (arith, w)) (λ e. omega (arith, is)),
    ),
  )
    where
      first : (r : Option Tie) → IsFirstTie out ss n r → IfSome r (λ (f : Tie). IsUpTo t f.earlier f.later) → (earlier later : ℕ) → HasTie out ss n earlier later → IsUpTo t earlier later
      first None h u earlier later tie = absurd (h earlier later tie)
      first (Some f) h u earlier later tie = let v = h.1 earlier later tie in up_to t f.earlier f.later earlier later u v.0 v.1
