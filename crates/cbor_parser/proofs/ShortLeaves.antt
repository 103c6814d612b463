-- Items without members, from their first byte.
use Rattle.std.proofs.Common.{◌≡◌, ℕ, suc, ◌+◌, ◌-◌, ◌%◌, ◌<◌, ◌≤◌, ◌⊎◌, Bool, true, List, ◌∷◌, ◌++◌, length, take, drop, get_or, length-drop, refl, sym, ap, ◌∙◌, subst, inl, inr, arith, IsUtf8, length-take-le, take-append-drop, drop-drop}
use Rattle.std.proofs.lemmas.Bool.{cases_lt}
use Rattle.byteorder.specs.Endian.{big_number}
use Rattle.cbor_head.specs.Prelude.{AreBytes, Holds, shortest, with_argument}
use Rattle.cbor_head.specs.declared.width.Width.TheVariants.{Direct, One, Two, Four, Eight, Indefinite}
use Rattle.cbor_head.specs.declared.{order.KeyOrder.KeyOrder, width.Width.Width}
use Rattle.theory_values.proofs.{KeyByteLists.bytes_take, KeyByteLists.bytes_drop, Normal.Holds-shortest}
use Rattle.cbor_parser.specs.inner.Leaves.{IsItemThen, IsShortest, IsShortestHead, IsLeaf}
use Rattle.cbor_parser.proofs.ShortHeads.{ByPlace, direct, an-unsigned, a-negative, a-simple, some-bytes, a-text, no-array, no-map, of-one, rest-is}
use Rattle.cbor_parser.specs.inner.Items.{IsShortString}

-- the argument of a head of at most two bytes
small-argument : (w : Width) (low n : ℕ) (following rest : List ℕ) → Holds w n → (0 + low) ∷ following ≡ with_argument w 0 n ++ rest → low ≤ 24 → (n < 256) × (low < 24 → n ≡ low)
small-argument Direct low n following rest h e l = let f : 0 + low ≡ 0 + n = ap (λ (xs : List ℕ). get_or xs 0 0) e in (omega (arith, h), λ k. omega (arith, f))
small-argument One low n following rest h e l = let f : 0 + low ≡ 0 + 24 = ap (λ (xs : List ℕ). get_or xs 0 0) e in (omega (arith, h), λ k. absurd (omega (arith, f, k)))
small-argument Two low n following rest h e l = let f : 0 + low ≡ 0 + 25 = ap (λ (xs : List ℕ). get_or xs 0 0) e in absurd (omega (arith, f, l))
small-argument Four low n following rest h e l = let f : 0 + low ≡ 0 + 26 = ap (λ (xs : List ℕ). get_or xs 0 0) e in absurd (omega (arith, f, l))
small-argument Eight low n following rest h e l = let f : 0 + low ≡ 0 + 27 = ap (λ (xs : List ℕ). get_or xs 0 0) e in absurd (omega (arith, f, l))
small-argument Indefinite low n following rest h e l = absurd h

-- an integer of either type
module _ (o : KeyOrder) (d first : ℕ) (following rest : List ℕ) (n : ℕ) where
  pub an-integer : first < 64 → IsShortest (first % 32) following n rest → IsItemThen o d (first ∷ following) rest
  an-integer l s = elim (cases_lt first 32) [
    | inl p ↦ let e : first % 32 ≡ first = omega (arith, p) in subst (λ c. IsItemThen o d (c ∷ following) rest) e (an-unsigned o d (first % 32) following rest n s)
    | inr p ↦ let e : 32 + first % 32 ≡ first = omega (arith, p, l) in subst (λ c. IsItemThen o d (c ∷ following) rest) e (a-negative o d (first % 32) following rest n s)
  ]

-- the head of one byte
pub one-byte-head : (low : ℕ) (following : List ℕ) → low < 24 → IsShortestHead low following 1
one-byte-head low following h = record { some = omega arith; inside = omega arith; number = low; shortest = direct low following h }

module _ (space : Bool) (first : ℕ) (following : List ℕ) where
  pub leaf-integer : (size : ℕ) → first < 64 → IsShortestHead (first % 32) following size → IsLeaf space (first ∷ following) size
  leaf-integer size l h =
      let some = h.some in
      let e : size ≡ suc (size - 1) = omega (arith, some) in
      record {
        inside = omega (arith, some, h.inside);
        item = λ o d r. subst (λ k. IsItemThen o d (first ∷ following) (drop k (first ∷ following))) (sym e) (an-integer o d first following (drop (size - 1) following) h.number l h.shortest);
      }

  pub leaf-simple : 224 ≤ first → first < 248 → IsLeaf space (first ∷ following) 1
  leaf-simple l h = record {
    inside = omega arith;
    item = λ o d r. let e : 224 + first % 32 ≡ first = omega (arith, l, h) in subst (λ c. IsItemThen o d (c ∷ following) following) e
        (a-simple o d (first % 32) following following (first % 32) (direct (first % 32) following (omega (arith, l, h))) (omega arith, λ k. absurd (omega (arith, l, h, k))));
  }

  pub leaf-empty : (size : ℕ) → (first ≡ 128) ⊎ (first ≡ 160) → size ≡ 1 → space ≡ true → IsLeaf space (first ∷ following) size
  leaf-empty size which e there_is = record {
    inside = omega (arith, e);
    item = λ o d r. subst (λ k. IsItemThen o d (first ∷ following) (drop k (first ∷ following))) (sym e) (elim which [
      | inl is ↦ subst (λ c. IsItemThen o d (c ∷ following) following) (sym is) (no-array o d following (r there_is))
      | inr is ↦ subst (λ c. IsItemThen o d (c ∷ following) following) (sym is) (no-map o d following (r there_is))
    ]);
  }

  -- after a head in its shortest form
  module _ (n : ℕ) (rest : List ℕ) (s : IsShortest (first % 32) following n rest) (fewer : length rest ≤ length following) where
    here : drop (1 + (length following - length rest)) (first ∷ following) ≡ rest
    here = let e : first ≡ (first - first % 32) + first % 32 = omega arith in rest-is first following _ rest (ap (λ c. c ∷ following) e ∙ s.spelled (first - first % 32)) fewer

    pub leaf-number : first < 64 → IsLeaf space (first ∷ following) (1 + (length following - length rest))
    leaf-number l = record { inside = omega (arith, fewer); item = λ o d r. subst (IsItemThen o d (first ∷ following)) (sym here) (an-integer o d first following rest n l s) }

    pub leaf-value : 224 ≤ first → first < 256 → first % 32 ≤ 24 → (first % 32 ≡ 24 → 32 ≤ n) → IsLeaf space (first ∷ following) (1 + (length following - length rest))
    leaf-value l h low wide =
        let small = small-argument (shortest n) (first % 32) n following rest (Holds-shortest n s.range) (s.spelled 0) low in
        let made : 224 + first % 32 ≡ first = omega (arith, l, h) in
        record {
          inside = omega (arith, fewer);
          item = λ o d r. subst (IsItemThen o d (first ∷ following)) (sym here)
              (subst (λ c. IsItemThen o d (c ∷ following) rest) made
              (a-simple o d (first % 32) following rest n s (small.0, λ k. elim (cases_lt (first % 32) 24) [ inl q ↦ absurd (omega (arith, small.1 q, q, k)) | inr q ↦ wide (omega (arith, low, q)) ])));
        }

    module _ (p : List ℕ) (is : p ≡ take n rest) (inside : n ≤ length rest) (all : AreBytes (first ∷ following)) where
      size : n ≡ length p
      size = sym (ap length is ∙ length-take-le n rest inside)

      split : p ++ drop n rest ≡ rest
      split = ap (λ (x : List ℕ). x ++ drop n rest) is ∙ take-append-drop n rest

      there : drop (1 + (length following - length rest) + length p) (first ∷ following) ≡ drop n rest
      there =
          let e : 1 + (length following - length rest) + length p ≡ (1 + (length following - length rest)) + n = omega (arith, size) in
          ap (λ k. drop k (first ∷ following)) e ∙ sym (drop-drop n (1 + (length following - length rest)) (first ∷ following)) ∙ ap (drop n) here

      bytes-first : 64 ≤ first → first < 96 → 64 + first % 32 ≡ first
      bytes-first l h = omega (arith, l, h)

      text-first : 96 ≤ first → first < 128 → 96 + first % 32 ≡ first
      text-first l h = omega (arith, l, h)

      bytes : AreBytes p
      bytes = subst AreBytes (sym is) (bytes_take n rest (subst AreBytes here (bytes_drop (1 + (length following - length rest)) (first ∷ following) all)))

      pub leaf-bytes : 64 ≤ first → first < 96 → IsLeaf space (first ∷ following) (1 + (length following - length rest) + length p)
      leaf-bytes l h = record {
        inside = omega (arith, fewer, inside, size);
        item = λ o d r. subst (IsItemThen o d (first ∷ following)) (sym there)
            (subst (λ c. IsItemThen o d (c ∷ following) (drop n rest)) (bytes-first l h) (some-bytes o d (first % 32) following p (drop n rest) n (subst (IsShortest (first % 32) following n) (sym split) s) size bytes));
      }

      pub leaf-text : 96 ≤ first → first < 128 → IsUtf8 p → IsLeaf space (first ∷ following) (1 + (length following - length rest) + length p)
      leaf-text l h u = record {
        inside = omega (arith, fewer, inside, size);
        item = λ o d r. subst (IsItemThen o d (first ∷ following)) (sym there)
            (subst (λ c. IsItemThen o d (c ∷ following) (drop n rest)) (text-first l h) (a-text o d (first % 32) following p (drop n rest) n (subst (IsShortest (first % 32) following n) (sym split) s) size bytes u));
      }

-- a string of up to 255 bytes
module _ (space : Bool) (first : ℕ) (b : List ℕ) (payload end : ℕ) (s : IsShortString first b payload end) (all : AreBytes b) where
  abbrev content : List ℕ
  content = take s.count s.rest

  within : s.count ≤ length s.rest
  within =
      omega (arith, s.fewer, s.begins, s.size, s.inside, ap length s.is)

  ends : 1 + (length s.following - length s.rest) + length content ≡ end
  ends =
      omega (arith, s.begins, s.size, length-take-le s.count s.rest within)

  back : IsLeaf space (first ∷ s.following) (1 + (length s.following - length s.rest) + length content) → IsLeaf space b end
  back l = subst (λ (x : List ℕ). IsLeaf space x end) (sym s.is) (subst (IsLeaf space (first ∷ s.following)) ends l)

  pub short-bytes : 64 ≤ first → first < 96 → IsLeaf space b end
  short-bytes l h = back (leaf-bytes space first s.following s.count s.rest s.head s.fewer content refl within (subst AreBytes s.is all) l h)

  pub short-text : 96 ≤ first → first < 128 → (prefix : List ℕ) → prefix ≡ drop payload b → IsUtf8 (take (end - payload) prefix) → IsLeaf space b end
  short-text l h prefix is u =
      let count : end - payload ≡ s.count = omega (arith, s.size) in
      let there : prefix ≡ s.rest = is ∙ ap (λ (k : ℕ). drop k b) s.begins ∙ ap (drop (1 + (length s.following - length s.rest))) s.is ∙ here space first s.following s.count s.rest s.head s.fewer in
      let text : IsUtf8 content = subst (λ (k : ℕ). IsUtf8 (take k s.rest)) count (subst (λ (x : List ℕ). IsUtf8 (take (end - payload) x)) there u) in
      back (leaf-text space first s.following s.count s.rest s.head s.fewer content refl within (subst AreBytes s.is all) l h text)

-- whose head has one byte or two
pub one-byte-string : (first : ℕ) (following b : List ℕ) (end : ℕ) → b ≡ first ∷ following → first % 32 < 24 → end ≡ 1 + first % 32 → end ≤ length b → IsShortString first b 1 end
one-byte-string first following b end is low e l = record {
  following = following;
  is = is;
  count = first % 32;
  rest = following;
  head = direct (first % 32) following low;
  fewer = omega arith;
  begins = omega arith;
  size = e;
  inside = l;
}

pub two-byte-string : (first n : ℕ) (following b : List ℕ) (end : ℕ) → b ≡ first ∷ following → first % 32 ≡ 24 → 1 ≤ length following → ByPlace following → n ≡ get_or following 0 0 → 24 ≤ n → end ≡ 2 + n → end ≤ length b → IsShortString first b 2 end
two-byte-string first n following b end is low some all n_is wide e l =
    let big : big_number 1 following ≡ n = omega (arith, n_is) in
    let more : 24 ≤ big_number 1 following = omega (arith, big, wide) in
    record {
      following = following;
      is = is;
      count = big_number 1 following;
      rest = drop 1 following;
      head = subst (λ (k : ℕ). IsShortest k following (big_number 1 following) (drop 1 following)) (sym low) (of-one following all some more);
      fewer = omega (arith, length-drop 1 following);
      begins = omega (arith, length-drop 1 following, some);
      size = omega (arith, e, big);
      inside = l;
    }
