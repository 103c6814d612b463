-- Lists of members and of pairs as a loop sees them step by step: counted, valid, met. What is left decides the whole, W.
use Rattle.std.proofs.Common.{◌≡◌, ℕ, zero, suc, ◌-◌, ◌<◌, List, [], ◌∷◌, ◌++◌, length, take, drop, map, get_or, slice_range, ◌↔◌, ◌⊎◌, inl, inr, refl, sym, ap, ◌∙◌, subst, arith, take-append-drop}
use Rattle.std.proofs.lemmas.List.{take_rest}
use Rattle.cbor_head.specs.Prelude.{Value, Entries, Same, Covered, AnyEntry, IsValid, AreEntriesValid, values_count}
use Rattle.cbor_head.specs.Value.{entries_count}
use Rattle.theory_values.specs.Lists.{values_of, entries_of}

module _ {X : Type 0} (view : X → Value) where
  abbrev entries : List (X × X) → Entries
  entries ps = entries_of (map (λ p. (view p.0, view p.1)) ps)

  -- some pair of the list is the same as p
  abbrev pub IsVisited : X × X → List (X × X) → Type 0
  IsVisited p ps = AnyEntry (Same (view p.0)) (Same (view p.1)) (entries ps)

  pub values_counted : (vs : List X) → values_count (values_of (map view vs)) ≡ length vs
  values_counted [] = refl
  values_counted (v ∷ vs) = ap suc (values_counted vs)

  pub entries_counted : (ps : List (X × X)) → entries_count (entries ps) ≡ length ps
  entries_counted [] = refl
  entries_counted (p ∷ ps) = ap suc (entries_counted ps)

  pub valid_at : (ps : List (X × X)) (i : ℕ) (d : X × X) → AreEntriesValid (entries ps) → i < length ps → IsValid (view (get_or ps i d).0) × IsValid (view (get_or ps i d).1)
  valid_at [] i d h l = absurd (omega arith)
  valid_at (p ∷ ps) zero d h l = (h.0, h.1)
  valid_at (p ∷ ps) (suc i) d h l = valid_at ps i d h.2 (omega arith)

  pub valid_read : (ps : List (X × X)) (i : ℕ) (p : X × X) → AreEntriesValid (entries ps) → i < length ps → p ≡ get_or ps i p → IsValid (view p.0) × IsValid (view p.1)
  valid_read ps i p h l e = subst (λ (q : X × X). IsValid (view q.0) × IsValid (view q.1)) (sym e) (valid_at ps i p h l)

  -- ---- each pair is met

  pub covered_on : (W : Type 0) (F : Entries) (ps : List (X × X)) (p : X × X) (rest : List (X × X)) → ps ≡ p ∷ rest → (W ↔ Covered (entries ps) F)
      → AnyEntry (Same (view p.0)) (Same (view p.1)) F → (W ↔ Covered (entries rest) F)
  covered_on W F ps p rest e inv h = let here = subst (λ us. W ↔ Covered (entries us) F) e inv in ((λ w. (here.0 w).1), (λ r. here.1 (h, r)))

  pub covered_fail : (W : Type 0) (F : Entries) (ps : List (X × X)) (p : X × X) (rest : List (X × X)) → ps ≡ p ∷ rest → (W ↔ Covered (entries ps) F)
      → (AnyEntry (Same (view p.0)) (Same (view p.1)) F → ⊥) → W → ⊥
  covered_fail W F ps p rest e inv h w = h ((subst (λ us. W ↔ Covered (entries us) F) e inv).0 w).0

  -- ---- a pair is met

  pub visited_on : (W : Type 0) (p : X × X) (us : List (X × X)) (x : X × X) (rest : List (X × X)) → us ≡ x ∷ rest → (W ↔ IsVisited p us)
      → ((Same (view p.0) (view x.0) × Same (view p.1) (view x.1)) → ⊥) → (W ↔ IsVisited p rest)
  visited_on W p us x rest e inv miss =
      let here = subst (λ us. W ↔ IsVisited p us) e inv in
      ((λ w. elim (here.0 w) [ inl s ↦ absurd (miss s) | inr r ↦ r ]), (λ r. here.1 (inr r)))

  -- ---- in two parts

  visited_append : (p : X × X) (xs ys : List (X × X)) → IsVisited p (xs ++ ys) ↔ (IsVisited p xs ⊎ IsVisited p ys)
  visited_append p [] ys = ((λ m. inr m), (λ m. elim m [ inl n ↦ absurd n | inr n ↦ n ]))
  visited_append p (x ∷ xs) ys =
      let more = visited_append p xs ys in (
        (λ m. elim m [ inl s ↦ inl (inl s) | inr r ↦ elim (more.0 r) [ inl a ↦ inl (inr a) | inr b ↦ inr b ] ]),
        (λ m. elim m [ inl a ↦ elim a [ inl s ↦ inl s | inr r ↦ inr (more.1 (inl r)) ] | inr b ↦ inr (more.1 (inr b)) ]),
      )

  parts : (xs : List (X × X)) (at n : ℕ) → n ≡ length xs → slice_range xs 0 at ++ slice_range xs at n ≡ xs
  parts xs at n e =
      let whole : at - 0 ≡ at = omega arith in
      ap (λ k. take k xs ++ take (n - at) (drop at xs)) whole ∙ ap (λ k. take at xs ++ take (k - at) (drop at xs)) e
      ∙ ap (λ (ys : List (X × X)). take at xs ++ ys) (take_rest xs at) ∙ take-append-drop at xs

  pub visited_after : (p : X × X) (xs : List (X × X)) (at n : ℕ) → n ≡ length xs → IsVisited p (slice_range xs at n) → IsVisited p xs
  visited_after p xs at n e m = subst (IsVisited p) (parts xs at n e) ((visited_append p (slice_range xs 0 at) (slice_range xs at n)).1 (inr m))

  pub visited_before : (p : X × X) (xs : List (X × X)) (at n : ℕ) → n ≡ length xs → (IsVisited p (slice_range xs at n) → ⊥) → IsVisited p (slice_range xs 0 at) ↔ IsVisited p xs
  visited_before p xs at n e miss =
      let both = visited_append p (slice_range xs 0 at) (slice_range xs at n) in (
        (λ m. subst (IsVisited p) (parts xs at n e) (both.1 (inl m))),
        (λ m. elim (both.0 (subst (IsVisited p) (sym (parts xs at n e)) m)) [ inl a ↦ a | inr b ↦ absurd (miss b) ]),
      )
