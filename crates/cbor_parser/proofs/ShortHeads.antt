-- Heads in their shortest form, and items without members.
use Rattle.std.proofs.Common.{◌≡◌, ℕ, ◌+◌, ◌-◌, ◌*◌, ◌^◌, ◌<◌, ◌≤◌, ◌⊎◌, List, ◌∷◌, ◌++◌, length, take, drop, get_or, w64, refl, sym, ap, ◌∙◌, subst, inl, inr, arith, IsUtf8, append_assoc, length-append}
use Rattle.std.{specs.Int.from_be_bytes, proofs.lemmas.Bool.cases_lt, proofs.lemmas.Bool.Decides.nat_tests, proofs.Math.Seq.drop-append_seam}
use Rattle.byteorder.specs.Endian.{big_number, big_bytes}
use Rattle.cbor_head.specs.Prelude.{IsSimple, head, with_argument, shortest, AreBytes, unsigned, negative, bytes, text, array, a_map, simple, no_spellings, no_entries}
use Rattle.cbor_head.specs.declared.width.Width.TheVariants.{Direct, One, Two, Four, Eight}
use Rattle.cbor_head.specs.declared.{order.KeyOrder.KeyOrder, major.Major.TheVariants.Bytes, major.Major.TheVariants.Text, width.Width.Width}
use Rattle.cbor_head.proofs.HeadBack.{prefix_number}
use Rattle.theory_values.proofs.Normal.{Holds-shortest}
use Rattle.theory_verdicts.proofs.Arguments.{direct-is}
use Rattle.cbor_parser.specs.inner.Leaves.{IsItemThen, IsShortest, IsShortestHead}

-- a list of bytes, by offset
abbrev pub ByPlace : List ℕ → Type 0
ByPlace xs = (i : ℕ) → get_or xs i 0 < 256

-- what follows a head
pub rest-is : (first : ℕ) (following hs rest : List ℕ) → first ∷ following ≡ hs ++ rest → length rest ≤ length following → drop (1 + (length following - length rest)) (first ∷ following) ≡ rest
rest-is first following hs rest e l =
    let n : 1 + (length following - length rest) ≡ length hs = omega (arith, ap length e, length-append hs rest, l) in
    ap (λ k. drop k (first ∷ following)) n ∙ ap (drop (length hs)) e ∙ drop-append_seam hs rest

-- ---- the shortest width

one-is : (n : ℕ) → 24 ≤ n → n < 256 → shortest n ≡ One
one-is n l h = grind (arith, nat_tests)

two-is : (n : ℕ) → 256 ≤ n → n < 65536 → shortest n ≡ Two
two-is n l h = grind (arith, nat_tests)

four-is : (n : ℕ) → 65536 ≤ n → n < 4294967296 → shortest n ≡ Four
four-is n l h = grind (arith, nat_tests)

eight-is : (n : ℕ) → 4294967296 ≤ n → shortest n ≡ Eight
eight-is n l = grind (arith, nat_tests)

-- the argument is the number of the next k bytes
argument-is : (w : Width) (k low : ℕ) (following : List ℕ) → ((first n : ℕ) → with_argument w first n ≡ (first + low) ∷ big_bytes k n) → shortest (big_number k following) ≡ w → k ≤ length following → ByPlace following → big_number k following < 2 ^ 64
    → IsShortest low following (big_number k following) (drop k following)
argument-is w k low following made is l h range =
    let n = big_number k following in
    record {
      spelled = λ first. ap (λ (x : List ℕ). (first + low) ∷ x) (sym (prefix_number k following l h)) ∙ ap (λ (x : List ℕ). x ++ drop k following) (sym (made first n)) ∙ ap (λ (v : Width). with_argument v first n ++ drop k following) (sym is);
      range = range;
    }

pub direct : (low : ℕ) (following : List ℕ) → low < 24 → IsShortest low following low following
direct low following h = record { spelled = λ first. ap (λ (v : Width). with_argument v first low ++ following) (sym (direct-is low h)); range = omega arith }

module _ (following : List ℕ) (h : ByPlace following) where
  pub of-one : 1 ≤ length following → 24 ≤ big_number 1 following → IsShortest 24 following (big_number 1 following) (drop 1 following)
  of-one l g = argument-is One 1 24 following (λ first n. refl) (one-is (big_number 1 following) g (omega (arith, h 0))) l h (omega (arith, h 0))

  pub of-two : 2 ≤ length following → 256 ≤ big_number 2 following → IsShortest 25 following (big_number 2 following) (drop 2 following)
  of-two l g = argument-is Two 2 25 following (λ first n. refl) (two-is (big_number 2 following) g (omega (arith, h 0, h 1))) l h (omega (arith, h 0, h 1))

  pub of-four : 4 ≤ length following → 65536 ≤ big_number 4 following → IsShortest 26 following (big_number 4 following) (drop 4 following)
  of-four l g = argument-is Four 4 26 following (λ first n. refl) (four-is (big_number 4 following) g (omega (arith, h 0, h 1, h 2, h 3))) l h (omega (arith, h 0, h 1, h 2, h 3))

  pub of-eight : 8 ≤ length following → 4294967296 ≤ big_number 8 following → IsShortest 27 following (big_number 8 following) (drop 8 following)
  of-eight l g = argument-is Eight 8 27 following (λ first n. refl) (eight-is (big_number 8 following) g) l h (omega (arith, h 0, h 1, h 2, h 3, h 4, h 5, h 6, h 7))

-- the eight bytes as one number
word-least : (xs : List ℕ) → ByPlace xs → 8 ≤ length xs
    → (24 * 2 ^ 56 ≤ from_be_bytes w64 (take 8 xs) → 24 ≤ big_number 1 xs) × (2 ^ 56 ≤ from_be_bytes w64 (take 8 xs) → 256 ≤ big_number 2 xs) × (2 ^ 48 ≤ from_be_bytes w64 (take 8 xs) → 65536 ≤ big_number 4 xs)
    × (2 ^ 32 ≤ from_be_bytes w64 (take 8 xs) → 4294967296 ≤ big_number 8 xs)
word-least (a ∷ b ∷ c ∷ d ∷ e ∷ f ∷ g ∷ i ∷ rest) h l = (
  λ k. omega (arith, k, h 0, h 1, h 2, h 3, h 4, h 5, h 6, h 7),
  λ k. omega (arith, k, h 0, h 1, h 2, h 3, h 4, h 5, h 6, h 7),
  λ k. omega (arith, k, h 0, h 1, h 2, h 3, h 4, h 5, h 6, h 7),
  λ k. omega (arith, k, h 0, h 1, h 2, h 3, h 4, h 5, h 6, h 7),
)
word-least xs h l = absurd (omega (arith, l))

pub record IsLeast (low least : ℕ) : Type 0 where
  pub one : low ≡ 24 → least ≡ 24 * 2 ^ 56
  pub two : low ≡ 25 → least ≡ 2 ^ 56
  pub four : low ≡ 26 → least ≡ 2 ^ 48
  pub eight : low ≡ 27 → least ≡ 2 ^ 32

pub record IsSize (low size : ℕ) : Type 0 where
  pub one : low ≡ 24 → size ≡ 1
  pub two : low ≡ 25 → size ≡ 2
  pub four : low ≡ 26 → size ≡ 4
  pub eight : low ≡ 27 → size ≡ 8

pub shortest-head : (low least size : ℕ) (following chunk : List ℕ) → chunk ≡ take 8 following → 8 ≤ length following → ByPlace following → IsLeast low least → IsSize low size → 24 ≤ low → low ≤ 27
    → least ≤ from_be_bytes w64 chunk → IsShortestHead low following (1 + size)
shortest-head low least size following chunk is l h least_is size_is low_is high_is word = by-low (elim (cases_lt low 25) [
  | inl p ↦ inl (omega (arith, p, low_is))
  | inr p ↦ elim (cases_lt low 26) [ inl q ↦ inr (inl (omega (arith, p, q))) | inr q ↦ elim (cases_lt low 27) [ inl r ↦ inr (inr (inl (omega (arith, q, r)))) | inr r ↦ inr (inr (inr (omega (arith, r, high_is)))) ] ]
])
  where
    made : (low size : ℕ) → size ≤ 8 → IsShortest low following (big_number size following) (drop size following) → IsShortestHead low following (1 + size)
    made low size small s =
        let k : 1 + size - 1 ≡ size = omega arith in
        record { some = omega arith; inside = omega (arith, small, l); number = big_number size following; shortest = subst (λ j. IsShortest low following (big_number size following) (drop j following)) (sym k) s }

    word_is : least ≤ from_be_bytes w64 (take 8 following)
    word_is = subst (λ (x : List ℕ). least ≤ from_be_bytes w64 x) is word

    by-low : (low ≡ 24) ⊎ (low ≡ 25) ⊎ (low ≡ 26) ⊎ (low ≡ 27) → IsShortestHead low following (1 + size)
    by-low (inl e) =
        subst (λ k. IsShortestHead k following (1 + size)) (sym e) (subst (λ j. IsShortestHead 24 following (1 + j)) (sym (size_is.one e)) (made 24 1 (omega arith) (of-one following h (omega (arith, l)) ((word-least following h l).0 (omega (arith, word_is, least_is.one e))))))
    by-low (inr (inl e)) =
        subst (λ k. IsShortestHead k following (1 + size)) (sym e) (subst (λ j. IsShortestHead 25 following (1 + j)) (sym (size_is.two e)) (made 25 2 (omega arith) (of-two following h (omega (arith, l)) ((word-least following h l).1 (omega (arith, word_is, least_is.two e))))))
    by-low (inr (inr (inl e))) =
        subst (λ k. IsShortestHead k following (1 + size)) (sym e) (subst (λ j. IsShortestHead 26 following (1 + j)) (sym (size_is.four e)) (made 26 4 (omega arith) (of-four following h (omega (arith, l)) ((word-least following h l).2 (omega (arith, word_is, least_is.four e))))))
    by-low (inr (inr (inr e))) =
        subst (λ k. IsShortestHead k following (1 + size)) (sym e) (subst (λ j. IsShortestHead 27 following (1 + j)) (sym (size_is.eight e)) (made 27 8 (omega arith) (of-eight following h (omega (arith, l)) ((word-least following h l).3 (omega (arith, word_is, least_is.eight e))))))

-- ---- items without members

-- the bytes after the head
module _ (o : KeyOrder) (d : ℕ) where
  pub an-unsigned : (low : ℕ) (following rest : List ℕ) (n : ℕ) → IsShortest low following n rest → IsItemThen o d (low ∷ following) rest
  an-unsigned low following rest n s = record {
    item = unsigned (shortest n) n;
    fine = record { spelled = Holds-shortest n s.range; within = omega arith; clean = λ at c x. x.1 refl; keyless = λ at c x. cc x.0 };
    bytes = let e : low ≡ 0 + low = omega arith in ap (λ (j : ℕ). j ∷ following) e ∙ s.spelled 0;
  }

  pub a-negative : (low : ℕ) (following rest : List ℕ) (n : ℕ) → IsShortest low following n rest → IsItemThen o d ((32 + low) ∷ following) rest
  a-negative low following rest n s = record {
    item = negative (shortest n) n;
    fine = record { spelled = Holds-shortest n s.range; within = omega arith; clean = λ at c x. x.1 refl; keyless = λ at c x. cc x.0 };
    bytes = s.spelled 32;
  }

  pub a-simple : (low : ℕ) (following rest : List ℕ) (n : ℕ) → IsShortest low following n rest → IsSimple n → IsItemThen o d ((224 + low) ∷ following) rest
  a-simple low following rest n s i = record { item = simple n; fine = record { spelled = i; within = omega arith; clean = λ at c x. x; keyless = λ at c x. x }; bytes = s.spelled 224 }

  pub some-bytes : (low : ℕ) (following p rest : List ℕ) (n : ℕ) → IsShortest low following n (p ++ rest) → n ≡ length p → AreBytes p → IsItemThen o d ((64 + low) ∷ following) rest
  some-bytes low following p rest n s e b =
      record {
        item = bytes (shortest (length p)) p;
        fine = record { spelled = (Holds-shortest (length p) (omega (arith, s.range, e)), b); within = omega arith; clean = λ at c x. x.1 refl; keyless = λ at c x. cc x.0 };
        bytes = s.spelled 64 ∙ sym (append_assoc (head Bytes (shortest n) n) p rest) ∙ ap (λ k. (head Bytes (shortest k) k ++ p) ++ rest) e;
      }

  pub a-text : (low : ℕ) (following p rest : List ℕ) (n : ℕ) → IsShortest low following n (p ++ rest) → n ≡ length p → AreBytes p → IsUtf8 p → IsItemThen o d ((96 + low) ∷ following) rest
  a-text low following p rest n s e b u =
      record {
        item = text (shortest (length p)) p;
        fine = record { spelled = (Holds-shortest (length p) (omega (arith, s.range, e)), b); within = omega arith; clean = λ at c x. elim x [ inl y ↦ y.1 refl | inr y ↦ y.1 u ]; keyless = λ at c x. elim x [ inl y ↦ cc y.0 | inr y ↦ cc y.0 ] };
        bytes = s.spelled 96 ∙ sym (append_assoc (head Text (shortest n) n) p rest) ∙ ap (λ k. (head Text (shortest k) k ++ p) ++ rest) e;
      }

  pub no-array : (following : List ℕ) → 0 < d → IsItemThen o d (128 ∷ following) following
  no-array following l = record {
    item = array Direct no_spellings;
    fine = record { spelled = (omega arith, tt); within = omega (arith, l); clean = λ at c x. elim x [ inl y ↦ y.1 refl | inr y ↦ y ]; keyless = λ at c x. elim x [ inl y ↦ cc y.0 | inr y ↦ y ] };
    bytes = refl;
  }

  pub no-map : (following : List ℕ) → 0 < d → IsItemThen o d (160 ∷ following) following
  no-map following l = record {
    item = a_map Direct no_entries;
    fine = record { spelled = (omega arith, tt); within = omega (arith, l); clean = λ at c x. elim x [ inl y ↦ y.1 refl | inr y ↦ y ]; keyless = λ at c x. elim x [ inl y ↦ cc y.0 | inr y ↦ y ] };
    bytes = refl;
  }
