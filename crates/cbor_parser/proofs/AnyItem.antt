-- What begins where an item is expected, from its first byte and its argument.
use Rattle.std.proofs.Common.{◌≡◌, ℕ, suc, ◌+◌, ◌-◌, ◌^◌, ◌%◌, ◌<◌, ◌≤◌, ◌⊎◌, Bool, true, List, ◌∷◌, ◌++◌, length, take, drop, get_or, refl, sym, ap, ◌∙◌, subst, inl, inr, arith, IsUtf8}
use Rattle.std.proofs.lemmas.Bool.{cases_lt}
use Rattle.cbor_head.specs.Prelude.{shortest, shortest_head, with_argument, AreBytes}
use Rattle.cbor_head.specs.{declared.major.Major.TheVariants.Array, declared.major.Major.TheVariants.Map, declared.width.Width.Width, Argument.IsArgument}
use Rattle.cbor_head.specs.InitialByte.{MayBegin}
use Rattle.theory_values.proofs.Counts.{holds_fits}
use Rattle.cbor_parser.proofs.ShortLeaves.{leaf-number, leaf-value, leaf-empty, leaf-bytes, leaf-text}
use Rattle.cbor_parser.{specs.inner.Leaves.IsShortest, specs.inner.Leaves.IsLeaf, proofs.ShortHeads.rest-is, specs.inner.Items.OpensHere}
use Rattle.cbor_parser.specs.declared.container.Expected.TheVariants.{Item, Key}

-- ---- arguments

module _ (low : ℕ) (following : List ℕ) (w : Width) (n : ℕ) (rest : List ℕ) (a : IsArgument low following w n rest) where
  pub shortest_argument : w ≡ shortest n → IsShortest low following n rest
  shortest_argument e = record { spelled = λ first. a.spelled first ∙ ap (λ (v : Width). with_argument v first n ++ rest) e; range = holds_fits w n a.holds }

-- ---- items that end with their head, and heads

module _ (space : Bool) (first : ℕ) (following : List ℕ) (w : Width) (n : ℕ) (rest : List ℕ) (a : IsArgument (first % 32) following w n rest) (fewer : length rest ≤ length following) (short : w ≡ shortest n) where
  s : IsShortest (first % 32) following n rest
  s = shortest_argument (first % 32) following w n rest a short

  pub any_leaf : (used : ℕ) → used ≡ suc (length following) - length rest → MayBegin first space → (first ≡ 0xf8 → 32 ≤ n) → (first < 64) ⊎ (224 ≤ first) → (0 < used) × IsLeaf space (first ∷ following) used
  any_leaf used e placed wide (inl l) =
      let same : 1 + (length following - length rest) ≡ used = omega (arith, e, fewer) in
      (omega (arith, e, fewer), subst (IsLeaf space (first ∷ following)) same (leaf-number space first following n rest s fewer l))
  any_leaf used e placed wide (inr l) =
      let same : 1 + (length following - length rest) ≡ used = omega (arith, e, fewer) in
      let h : first < 249 = placed.no_float in (
        omega (arith, e, fewer),
        subst (IsLeaf space (first ∷ following)) same (leaf-value space first following n rest s fewer l (omega (arith, h)) (omega (arith, l, h)) (λ k. wide (omega (arith, l, h, k)))),
      )

  module _ (used : ℕ) (e : used ≡ suc (length following) - length rest) (inside : n ≤ length rest) (all : AreBytes (first ∷ following)) where
    with_payload : IsLeaf space (first ∷ following) (1 + (length following - length rest) + length (take n rest)) → (0 < used + length (take n rest)) × IsLeaf space (first ∷ following) (used + length (take n rest))
    with_payload l =
        let same : 1 + (length following - length rest) + length (take n rest) ≡ used + length (take n rest) = omega (arith, e, fewer) in
        (omega (arith, e, fewer), subst (IsLeaf space (first ∷ following)) same l)

    pub some_bytes : 64 ≤ first → first < 96 → (0 < used + length (take n rest)) × IsLeaf space (first ∷ following) (used + length (take n rest))
    some_bytes l h = with_payload (leaf-bytes space first following n rest s fewer (take n rest) refl inside all l h)

    pub a_text : 96 ≤ first → first < 128 → IsUtf8 (take n rest) → (0 < used + length (take n rest)) × IsLeaf space (first ∷ following) (used + length (take n rest))
    a_text l h u = with_payload (leaf-text space first following n rest s fewer (take n rest) refl inside all l h u)

  module _ (used : ℕ) (e : used ≡ suc (length following) - length rest) (is_space : space ≡ true) where
    same_used : 1 + (length following - length rest) ≡ used
    same_used = omega (arith, e, fewer)

    back : (hs : List ℕ) → first ∷ following ≡ hs ++ rest → drop used (first ∷ following) ≡ rest
    back hs f = ap (λ (k : ℕ). drop k (first ∷ following)) (sym same_used) ∙ rest-is first following hs rest f fewer

    opens : (base : ℕ) → base + first % 32 ≡ first → first ∷ following ≡ with_argument (shortest n) base n ++ drop used (first ∷ following)
    opens base f =
        let is = ap (λ (x : ℕ). x ∷ following) (sym f) ∙ s.spelled base in
        is ∙ ap (λ (x : List ℕ). with_argument (shortest n) base n ++ x) (sym (back _ is))

    pub a_tag : 192 ≤ first → first < 224 → OpensHere space (first ∷ following) Item 0 used
    a_tag l h = record { fits = is_space; opens = record { some = omega (arith, e, fewer); inside = omega (arith, e); opener = inr (refl, (n, s.range, opens 192 (omega (arith, l, h)))) } }

    pub an_array : 128 ≤ first → first < 160 → 0 < n → OpensHere space (first ∷ following) Item (n - 1) used
    an_array l h some =
        let m : n ≡ suc (n - 1) = omega (arith, some) in
        record {
          fits = is_space;
          opens = record { some = omega (arith, e, fewer); inside = omega (arith, e); opener = inl (subst (λ (k : ℕ). (k < 2 ^ 64) × (first ∷ following ≡ shortest_head Array k ++ drop used (first ∷ following))) m (s.range, opens 128 (omega (arith, l, h)))) };
        }

    pub a_map : 160 ≤ first → first < 192 → 0 < n → OpensHere space (first ∷ following) Key (n - 1) used
    a_map l h some =
        let m : n ≡ suc (n - 1) = omega (arith, some) in
        record {
          fits = is_space;
          opens = record { some = omega (arith, e, fewer); inside = omega (arith, e); opener = subst (λ (k : ℕ). (k < 2 ^ 64) × (first ∷ following ≡ shortest_head Map k ++ drop used (first ∷ following))) m (s.range, opens 160 (omega (arith, l, h))) };
        }

    -- without members: the head is one byte
    pub an_empty : 128 ≤ first → first < 192 → n ≡ 0 → (0 < used) × IsLeaf space (first ∷ following) used
    an_empty l h none =
        let low : 0 + first % 32 ≡ 0 + 0 = ap (λ (xs : List ℕ). get_or xs 0 0) (subst (λ (k : ℕ). (0 + first % 32) ∷ following ≡ with_argument (shortest k) 0 k ++ rest) none (s.spelled 0)) in
        let whole : following ≡ rest = ap (drop 1) (subst (λ (k : ℕ). (0 + first % 32) ∷ following ≡ with_argument (shortest k) 0 k ++ rest) none (s.spelled 0)) in
        let one : used ≡ 1 = omega (arith, e, ap length whole) in
        (omega (arith, one), leaf-empty space first following used (which low) one is_space)
      where
        which : 0 + first % 32 ≡ 0 + 0 → (first ≡ 128) ⊎ (first ≡ 160)
        which low = elim (cases_lt first 160) [ inl k ↦ inl (omega (arith, low, k, l)) | inr k ↦ inr (omega (arith, low, k, h)) ]
