-- One more in a set of bytes.
use Rattle.std.proofs.Common.{ℕ, ◌≡◌, ◌↔◌, ◌⊎◌, Bool, true, false, cond, List, refl, ap, sym, ◌∙◌, inl, inr}
use Rattle.std.specs.{Ordering.nat_cmp, Cmp.Lexicographic.slice_cmp, BTreeSet.BTreeSet, BTreeSet.Updates}
use Rattle.std.proofs.lemmas.{Map.Text.is_eq-slice_cmp, Slice.Eq.bytes_eq-Decides}
use Rattle.cbor_tree_reader.specs.inner.HeldKeys.{is_in}

-- what is in a set with one more
pub in_more : {X : Type 0} (bytes : X → List ℕ) (set new : BTreeSet X) (b q : X) (P : Type 0) → Updates (λ x y. slice_cmp nat_cmp (bytes x) (bytes y)) set new b true
    → (is_in bytes set q ≡ true) ↔ P → (is_in bytes new q ≡ true) ↔ ((bytes q ≡ bytes b) ⊎ P)
in_more bytes set new b q P u h =
    let at = u.0 q in
    let is = is_eq-slice_cmp (bytes b) (bytes q) in
    let decides = bytes_eq-Decides (bytes b) (bytes q) in (
      (λ e. by_place _ _ (λ t. inl (sym (decides.0 (sym is ∙ t)))) (λ f. inr (h.0 f)) (sym at ∙ e)),
      (elim [ inl e ↦ at ∙ ap (λ (x : Bool). cond x true (is_in bytes set q)) (is ∙ decides.1 (sym e)) | inr p ↦ at ∙ there_too _ _ (h.1 p) ]),
    )
  where
    by_place : {A : Type 0} (x y : Bool) → (x ≡ true → A) → (y ≡ true → A) → cond x true y ≡ true → A
    by_place true y f g e = f refl
    by_place false y f g e = g e

    there_too : (x y : Bool) → y ≡ true → cond x true y ≡ true
    there_too true y e = refl
    there_too false y e = e
