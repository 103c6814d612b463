-- Different keys of a map, with the one that waits for its value.
use Rattle.std.proofs.Common.{◌≡◌, ◌≢◌, ℕ, zero, suc, ◌<◌, List, [], ◌∷◌, ◌++◌, length, length-append, get_or, sym, ap, ◌∙◌, arith, inl, inr, IsPermutation}
use Rattle.std.{specs.List.AllByRecursion, proofs.lemmas.Bool.cases_lt, proofs.Math.ListN.get_or-append, proofs.Math.Seq.get_or-append_seam}
use Rattle.std.proofs.lemmas.List.Sorted.{IsPermutation-sym, IsPermutation-map}
use Rattle.cbor_head.specs.Prelude.{Pair}
use Rattle.theory_values.{specs.Pairs.HasDistinctBytes, proofs.Members.In, proofs.Members.all_from}
use Rattle.cbor_builder.specs.Built.{HasKey, IsRepeatAt, AreAllDifferent, IsFirstRepeat}
use Rattle.cbor_builder.proofs.{Neighbours.keys, Ties.two_permuted}

-- ---- with a key that waits for its value

key_exactly : (ps : List Pair) (k : List ℕ) → HasKey ps k → (j : ℕ) × (j < length (keys ps)) × (get_or (keys ps) j [] ≡ k)
key_exactly [] k h = absurd h
key_exactly (p ∷ ps) k (inl e) = (zero, omega arith, e)
key_exactly (p ∷ ps) k (inr h) = let r = key_exactly ps k h in (suc r.0, omega (arith, r.1), r.2)

key_there : (ps : List Pair) (k : List ℕ) (j : ℕ) → j < length (keys ps) → get_or (keys ps) j [] ≡ k → HasKey ps k
key_there [] k j l e = absurd (omega (arith, l))
key_there (p ∷ ps) k zero l e = inl e
key_there (p ∷ ps) k (suc j) l e = inr (key_there ps k j (omega (arith, l)) e)

repeat_less : (ks : List (List ℕ)) (k : List ℕ) (i : ℕ) → i < length ks → IsRepeatAt (ks ++ k ∷ []) i → IsRepeatAt ks i
repeat_less ks k i l r = (r.0, r.1, l, sym (get_or-append ks (k ∷ []) [] r.0 (omega (arith, l, r.1))) ∙ r.3 ∙ get_or-append ks (k ∷ []) [] i l)

repeat_more : (ks : List (List ℕ)) (k : List ℕ) (i : ℕ) → IsRepeatAt ks i → IsRepeatAt (ks ++ k ∷ []) i
repeat_more ks k i r =
    (r.0, r.1, omega (arith, length-append ks (k ∷ []), r.2), get_or-append ks (k ∷ []) [] r.0 (omega (arith, r.1, r.2)) ∙ r.3 ∙ sym (get_or-append ks (k ∷ []) [] i r.2))

pub first_more : (ks : List (List ℕ)) (k : List ℕ) (i : ℕ) → IsFirstRepeat ks i → IsFirstRepeat (ks ++ k ∷ []) i
first_more ks k i f = (repeat_more ks k i f.0, λ j l r. f.1 j l (repeat_less ks k j (omega (arith, l, f.0.2)) r))

pub waits_repeated : (ps : List Pair) (k : List ℕ) → AreAllDifferent (keys ps) → HasKey ps k → IsFirstRepeat (keys ps ++ k ∷ []) (length (keys ps))
waits_repeated ps k d h =
    let m = key_exactly ps k h in
    let n = length-append (keys ps) (k ∷ []) in (
      (m.0, m.1, omega (arith, n), get_or-append (keys ps) (k ∷ []) [] m.0 m.1 ∙ m.2 ∙ sym (get_or-append_seam (keys ps) k [] [])),
      λ j l r. d j (repeat_less (keys ps) k j l r),
    )

pub waits_alone : (ps : List Pair) (k : List ℕ) → AreAllDifferent (keys ps) → (HasKey ps k → ⊥) → AreAllDifferent (keys ps ++ k ∷ [])
waits_alone ps k d h i r =
    elim (cases_lt i (length (keys ps))) [
      | inl l ↦ d i (repeat_less (keys ps) k i l r)
      | inr l ↦
          let e : i ≡ length (keys ps) = omega (arith, l, length-append (keys ps) (k ∷ []), r.2) in
          h (key_there ps k r.0 (omega (arith, r.1, e)) (sym (get_or-append (keys ps) (k ∷ []) [] r.0 (omega (arith, r.1, e))) ∙ r.3 ∙ ap (λ (j : ℕ). get_or (keys ps ++ k ∷ []) j []) e ∙ get_or-append_seam (keys ps) k [] []))
    ]

-- ---- distinct keys repeat none

differs_later : (k : List ℕ) (ps : List Pair) (i : ℕ) → AllByRecursion (λ (q : Pair). q.key ≢ k) ps → i < length (keys ps) → k ≡ get_or (keys ps) i [] → ⊥
differs_later k [] i a l e = absurd (omega (arith, l))
differs_later k (p ∷ ps) zero a l e = a.0 (sym e)
differs_later k (p ∷ ps) (suc i) a l e = differs_later k ps i a.1 (omega (arith, l)) e

pub distinct_different : (ps : List Pair) → HasDistinctBytes ps → AreAllDifferent (keys ps)
distinct_different ps d i r = by_index ps r.0 i d r.1 r.2 r.3
  where
    by_index : (ps : List Pair) (j i : ℕ) → HasDistinctBytes ps → j < i → i < length (keys ps) → get_or (keys ps) j [] ≡ get_or (keys ps) i [] → ⊥
    by_index [] j i d l h e = absurd (omega (arith, h))
    by_index (p ∷ ps) j zero d l h e = absurd (omega (arith, l))
    by_index (p ∷ ps) zero (suc i) d l h e = differs_later p.key ps i d.0 (omega (arith, h)) e
    by_index (p ∷ ps) (suc j) (suc i) d l h e = by_index ps j i d.1 (omega (arith, l)) (omega (arith, h)) e

-- and keys that repeat none are distinct
pub different_distinct : (ps : List Pair) → AreAllDifferent (keys ps) → HasDistinctBytes ps
different_distinct [] d = tt
different_distinct (p ∷ ps) d = (
  all_from (λ q. q.key ≢ p.key) ps (λ q m e. let at = place_of ps q m in d (suc at.0) (0, omega arith, omega (arith, at.1), sym e ∙ sym at.2)),
  different_distinct ps (λ i r. d (suc i) (suc r.0, omega (arith, r.1), omega (arith, r.2), r.3)),
)
  where
    place_of : (ps : List Pair) (q : Pair) → In q ps → (i : ℕ) × (i < length (keys ps)) × (get_or (keys ps) i [] ≡ q.key)
    place_of [] q m = absurd m
    place_of (p ∷ ps) q (inl e) = (zero, omega arith, ap (λ (p : Pair). p.key) (sym e))
    place_of (p ∷ ps) q (inr m) = let at = place_of ps q m in (suc at.0, omega (arith, at.1), at.2)

-- in any order
pub distinct_permuted : (ps qs : List Pair) → IsPermutation ps qs → HasDistinctBytes ps → HasDistinctBytes qs
distinct_permuted ps qs m d = different_distinct qs (λ i r.
    let moved = IsPermutation-sym (keys ps) (keys qs) (IsPermutation-map (λ (p : Pair). p.key) ps qs m) in
    let (j, k, lj, lk, ne, same) = two_permuted [] (λ x y. x ≡ y) (keys qs) (keys ps) moved (r.0, i, omega (arith, r.1, r.2), r.2, (λ e. omega (arith, r.1, e)), r.3) in
    elim (cases_lt j k) [ inl l ↦ distinct_different ps d k (j, l, lk, same) | inr l ↦ distinct_different ps d j (k, omega (arith, l, ne), lj, sym same) ])
