-- The first key that is equal to an earlier one.
use Rattle.std.proofs.Common.{◌≡◌, ℕ, zero, suc, ◌+◌, ◌^◌, ◌<◌, ◌≤◌, Bool, true, false, List, [], ◌∷◌, length, get_or, map, Option, Some, None, sym, ap, ◌∙◌, subst, arith, inl, inr, IsPermutation, cond, slice_range, ◌==◌, lt-ltb, le-ltb, ne_eqb, eq-eqb}
use Rattle.std.specs.List.{count_by}
use mir.Val.{bool_byte}
use Rattle.std.proofs.lemmas.List.Sorted.{IsPermutation-sym, IsPermutation-trans, sum_by-IsPermutation}
use Rattle.std.proofs.lemmas.{Bool.cases_lt, Bool.cases_eq, List.get_or-map, List.length-map, List.Sums.sum_by-cons}
use Rattle.theory_values.proofs.Members.{all_at, all_from}
use Rattle.cbor_builder.specs.inner.Spans.{no_span, IsWithin, AreWithin}
use Rattle.cbor_builder.specs.Built.{IsRepeatAt, AreAllDifferent, IsFirstRepeat}
use Rattle.cbor_builder.specs.inner.Repeats.{nth, place, lies_before, HasPlace, ArePlaced, AreOf, HasTie, IsFirstTie}
use Rattle.cbor_builder.specs.{declared.span.Span.Span, inner.Prefix.key_of, inner.Laid.Tile, declared.repeats.Tie.Tie}
use Rattle.cbor_builder.proofs.{Growth.tile_within, Ranks.all_permuted, Ties.tie_permuted, Ties.first_same}

-- ---- the places of pairs one after another

tile_at : (a n : ℕ) (ss : List Span) (i : ℕ) → Tile a ss n → i < length ss → (a ≤ (nth ss i).key) × ((nth ss i).key ≤ (nth ss i).val) × ((nth ss i).val ≤ (nth ss i).end)
tile_at a n [] i h l = absurd (omega (arith, l))
tile_at a n (s ∷ ss) zero h l = (omega (arith, h.0), h.1, h.2)
tile_at a n (s ∷ ss) (suc i) h l = let r = tile_at s.end n ss i h.3 (omega (arith, l)) in (omega (arith, h.0, h.1, h.2, r.0), r.1, r.2)

tile_apart : (a n : ℕ) (ss : List Span) (i j : ℕ) → Tile a ss n → i < j → j < length ss → (nth ss i).end ≤ (nth ss j).key
tile_apart a n [] i j h l k = absurd (omega (arith, k))
tile_apart a n (s ∷ ss) i zero h l k = absurd (omega (arith, l))
tile_apart a n (s ∷ ss) zero (suc j) h l k = (tile_at s.end n ss j h.3 (omega (arith, k))).0
tile_apart a n (s ∷ ss) (suc i) (suc j) h l k = tile_apart s.end n ss i j h.3 (omega (arith, l)) (omega (arith, k))

-- the places rise, and pairs at equal places have equal keys
abbrev Rise : List ℕ → List Span → Type 0
Rise out ss = (i j : ℕ) → i < j → j < length ss → (place (nth ss i) ≤ place (nth ss j)) × (place (nth ss i) ≡ place (nth ss j) → key_of out (nth ss i) ≡ key_of out (nth ss j))

tile_rises : (out : List ℕ) (a n : ℕ) (ss : List Span) → Tile a ss n → Rise out ss
tile_rises out a n ss h i j l k =
    let p = tile_at a n ss i h (omega (arith, l, k)) in
    let q = tile_at a n ss j h k in
    let r = tile_apart a n ss i j h l k in (
      omega (arith, p.1, p.2, q.1, q.2, r),
      λ e.
          let key : (nth ss i).key ≡ (nth ss j).key = omega (arith, p.1, p.2, q.1, q.2, r, e) in
          let val : (nth ss i).val ≡ (nth ss j).val = omega (arith, p.1, p.2, q.1, q.2, r, e) in
          λ t. slice_range out (key t) (val t),
    )

-- the number of spans before a place: the first ones, and no others
module _ (out : List ℕ) (at : ℕ) where
  abbrev count : List Span → ℕ
  count ss = count_by (lies_before at) ss

  one_of : (s : Span) (ss : List Span) → (place s < at → count (s ∷ ss) ≡ 1 + count ss) × (at ≤ place s → count (s ∷ ss) ≡ 0 + count ss)
  one_of s ss = (
    (λ g. sum_by-cons _ s ss ∙ ap (λ (b : Bool). cond b 1 0 + count ss) (lt-ltb (place s) at g)),
    λ g. sum_by-cons _ s ss ∙ ap (λ (b : Bool). cond b 1 0 + count ss) (le-ltb (place s) at g),
  )

  counted : (ss : List Span) → Rise out ss → (i : ℕ) → i < length ss → (place (nth ss i) < at → i < count ss) × (at ≤ place (nth ss i) → count ss ≤ i)
  counted [] h i l = absurd (omega (arith, l))
  counted (s ∷ []) h zero l = ((λ g. omega (arith, (one_of s []).0 g)), λ g. omega (arith, (one_of s []).1 g))
  counted (s ∷ t ∷ ss) h zero l =
      let up = (h 0 1 (omega arith) (omega arith)).0 in
      let r = counted (t ∷ ss) (λ i j l k. h (suc i) (suc j) (omega (arith, l)) (omega (arith, k))) 0 (omega arith) in
      ((λ g. omega (arith, (one_of s (t ∷ ss)).0 g)), λ g. omega (arith, (one_of s (t ∷ ss)).1 g, r.1 (omega (arith, g, up))))
  counted (s ∷ ss) h (suc i) l =
      let up = (h 0 (suc i) (omega arith) (omega (arith, l))).0 in
      let r = counted ss (λ i j l k. h (suc i) (suc j) (omega (arith, l)) (omega (arith, k))) i (omega (arith, l)) in
      let one = one_of s ss in
      ((λ g. omega (arith, r.0 g, one.0 (omega (arith, up, g)))), λ g. elim (cases_lt (place s) at) [ inl k ↦ omega (arith, r.1 g, one.0 k) | inr k ↦ omega (arith, r.1 g, one.1 k) ])

-- ---- the first tie gives the first repeat

module _ (out : List ℕ) (xs : List Span) (rise : Rise out xs) where
  keys_at : (i : ℕ) → i < length xs → get_or (map (key_of out) xs) i [] ≡ key_of out (nth xs i)
  keys_at i l = get_or-map (key_of out) xs i no_span [] l

  -- a repeated key belongs to a tie
  pub repeat_ties : (i : ℕ) → IsRepeatAt (map (key_of out) xs) i → (j : ℕ) × (j < i) × (i < length xs) × HasTie out xs (length xs) (place (nth xs j)) (place (nth xs i))
  repeat_ties i (j, less, within, same) =
      let l : i < length xs = omega (arith, within, length-map xs (key_of out)) in
      let up = (rise j i less l).0 in
      (j, less, l, (j, i, less, l, (sym (keys_at j (omega (arith, l, less))) ∙ same ∙ keys_at i l, omega (arith, up), omega (arith, up))))

  -- and a later span with the key of an earlier one repeats that key
  repeats_at : (j i : ℕ) → j < i → i < length xs → key_of out (nth xs j) ≡ key_of out (nth xs i) → IsRepeatAt (map (key_of out) xs) i
  repeats_at j i less l same = (j, less, omega (arith, l, length-map xs (key_of out)), keys_at j (omega (arith, less, l)) ∙ same ∙ sym (keys_at i l))

  -- the span that shares a place with another, with none of lower place before it
  same_place : (i j at : ℕ) → i ≤ j → j < length xs → (place (nth xs i) < at → ⊥) → place (nth xs j) ≡ at → (place (nth xs i) ≡ at) × (key_of out (nth xs i) ≡ key_of out (nth xs j))
  same_place i j at l k low e = elim (cases_lt i j) [
    | inl less ↦
        let r = rise i j less k in
        let is : place (nth xs i) ≡ at = omega (arith, low, r.0, e) in
        (is, r.1 (is ∙ sym e))
    | inr h ↦ let is : j ≡ i = omega (arith, l, h) in (ap (λ n. place (nth xs n)) (sym is) ∙ e, ap (λ n. key_of out (nth xs n)) (sym is))
  ]

  pub one_found : (t : Tie) (n : ℕ) → IsFirstTie out xs (length xs) (Some t) → n ≡ count_by (lies_before t.later) xs → IsFirstRepeat (map (key_of out) xs) (n + bool_byte (t.earlier == t.later))
  one_found t n ((i, j, less, lj, (same, low, high)), first) e = elim (cases_eq t.earlier t.later) [
    | inl is ↦ subst (λ b. IsFirstRepeat (map (key_of out) xs) (n + bool_byte b)) (sym (eq-eqb t.earlier t.later is)) (
      repeats_at n (n + 1) (omega arith) (omega (arith, (after_at is).0, less, lj)) (there.1 ∙ sym (after_at is).1.1),
      λ k lk r. elim (cases_lt k n) [
        | inl g ↦ early k g r
        | inr g ↦
            let at : k ≡ n = omega (arith, g, lk) in
            let (q, lq, ln, tie) = repeat_ties n (subst (IsRepeatAt (map (key_of out) xs)) at r) in
            let up = (first _ _ tie).1 (sym there.0) in
            omega (arith, up, (side q (omega (arith, lq, ln))).1, lq, is)
      ],
    )
    | inr other ↦ subst (λ b. IsFirstRepeat (map (key_of out) xs) (n + bool_byte b)) (sym (ne_eqb t.earlier t.later other))
        (subst (IsFirstRepeat (map (key_of out) xs)) (omega arith) (repeats_at i n (omega (arith, (side i (omega (arith, less, lj))).0, up, low, high, other)) (omega (arith, l, lj)) (same ∙ sym there.1), early))
  ]
    where
      side : (k : ℕ) → k < length xs → (place (nth xs k) < t.later → k < n) × (t.later ≤ place (nth xs k) → n ≤ k)
      side k l = let c = counted out t.later xs rise k l in ((λ g. omega (arith, c.0 g, e)), λ g. omega (arith, c.1 g, e))

      early : (k : ℕ) → k < n → IsRepeatAt (map (key_of out) xs) k → ⊥
      early k l r = let (q, lq, lk, tie) = repeat_ties k r in omega (arith, (first _ _ tie).0, (side k lk).1, l)

      up : place (nth xs i) ≤ place (nth xs j)
      up = (rise i j less lj).0

      l : n ≤ j
      l = omega (arith, (side j lj).1, up, high)

      there : (place (nth xs n) ≡ t.later) × (key_of out (nth xs n) ≡ key_of out (nth xs j))
      there = same_place n j t.later l lj (λ g. omega (arith, (side n (omega (arith, l, lj))).0 g)) (omega (arith, up, high))

      -- if the two have one place, so do span n and the next one
      after_at : t.earlier ≡ t.later → (n ≤ i) × ((place (nth xs (n + 1)) ≡ t.later) × (key_of out (nth xs (n + 1)) ≡ key_of out (nth xs j)))
      after_at is =
          let more : n ≤ i = omega (arith, (side i (omega (arith, less, lj))).1, up, low, high, is) in
          (more, same_place (n + 1) j t.later (omega (arith, more, less)) lj (λ g. omega (arith, (side (n + 1) (omega (arith, more, less, lj))).0 g)) (omega (arith, up, high)))

-- ---- spans in any order

pub bit_most : (b : Bool) → bool_byte b ≤ 1
bit_most true = omega arith
bit_most false = omega arith

-- their places fit in a word
pub placed : (out : List ℕ) (xs ys zs : List Span) → length out < 2 ^ 63 → AreOf out xs ys → IsPermutation ys zs → ArePlaced zs
placed out xs ys zs short (start, end, tile, ends, prefixed, moved) m = all_from HasPlace zs (λ s i. fits s (all_at (IsWithin out) zs s within i))
  where
    within : AreWithin out zs
    within = all_permuted _ ys zs m (all_permuted _ xs ys moved (tile_within out start xs end tile ends))

    fits : (s : Span) → IsWithin out s → HasPlace s
    fits s w = omega (arith, w.0, w.1, w.2, short)

tie_back : (out : List ℕ) (xs ys zs : List Span) (r : Option Tie) → AreOf out xs ys → IsPermutation ys zs → IsFirstTie out zs (length zs) r → IsFirstTie out xs (length xs) r
tie_back out xs ys zs r of m h =
    let there = IsPermutation-trans xs ys zs of.5 m in
    first_same out zs xs (length zs) (length xs) r (λ earlier later. tie_permuted out zs xs earlier later (IsPermutation-sym xs zs there)) (λ earlier later. tie_permuted out xs zs earlier later there) h

pub none_reported : (out : List ℕ) (xs ys zs : List Span) → AreOf out xs ys → IsPermutation ys zs → IsFirstTie out zs (length zs) None → AreAllDifferent (map (key_of out) xs)
none_reported out xs ys zs of m h i r = tie_back out xs ys zs None of m h _ _ (repeat_ties out xs (tile_rises out of.0 of.1 xs of.2) i r).3

pub one_reported : (out : List ℕ) (xs ys zs : List Span) (t : Tie) (n twin : ℕ) → AreOf out xs ys → IsPermutation ys zs → IsFirstTie out zs (length zs) (Some t) → n ≡ count_by (lies_before t.later) zs
    → twin ≡ bool_byte (t.earlier == t.later) → IsFirstRepeat (map (key_of out) xs) (n + twin)
one_reported out xs ys zs t n twin of m h e et =
    let same = sum_by-IsPermutation (λ s. cond (lies_before t.later s) 1 0) xs zs (IsPermutation-trans xs ys zs of.5 m) in
    subst (λ k. IsFirstRepeat (map (key_of out) xs) (n + k)) (sym et) (one_found out xs (tile_rises out of.0 of.1 xs of.2) t n (tie_back out xs ys zs (Some t) of m h) (e ∙ same))
