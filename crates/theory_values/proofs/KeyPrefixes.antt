-- The first eight bytes of a key as a number.
use Rattle.std.proofs.Common.{◌≡◌, ℕ, zero, suc, ◌-◌, ◌*◌, ◌/◌, ◌^◌, ◌<◌, ◌≤◌, List, [], ◌∷◌, length, take, w64, refl, sym, ap, ◌∙◌, arith, inl, inr, lit<, pow-suc, mul-le-mul_left, mul-suc}
use Rattle.std.specs.declared.cmp.Ordering.TheVariants.{Less, Equal, Greater}
use Rattle.std.specs.Ordering.{nat_cmp, ordering_then, ordering_reverse, MatchOrdering}
use Rattle.std.{specs.Int.from_be_bytes, specs.declared.cmp.Ordering.Ordering, specs.Cmp.Lexicographic.slice_cmp, proofs.lemmas.Bool.cases_lt}
use Rattle.std.proofs.lemmas.Cmp.{ranked}
use Rattle.cbor_head.specs.{Prelude.key_cmp, Prelude.AreBytes, declared.order.KeyOrder.TheVariants.Bytewise}
use Rattle.theory_values.{proofs.Orders.key_cmp_total, specs.KeyPrefix.digits, specs.KeyPrefix.prefix_of}

-- ---- prefixes and order

positive : (n : ℕ) → 0 < 256 ^ n
positive zero = lit< tt
positive (suc n) = let p = positive n in let e = pow-suc 256 n in omega (arith, p, e)

pub below : (n : ℕ) (xs : List ℕ) → AreBytes xs → digits n xs < 256 ^ n
below zero xs h = lit< tt
below (suc n) [] h = positive (suc n)
below (suc n) (x ∷ xs) h =
    let r = below n xs h.1 in
    let e = pow-suc 256 n in
    let l : x ≤ 255 = omega (arith, h.0) in
    let m = mul-le-mul_left (256 ^ n) l in
    omega (arith, r, e, m)

-- a lower prefix, a lower key
pub prefix_less : (n : ℕ) (xs ys : List ℕ) → AreBytes xs → AreBytes ys → digits n xs < digits n ys → slice_cmp nat_cmp xs ys ≡ Less
prefix_less (suc n) [] (y ∷ ys) h g l = refl
prefix_less (suc n) (x ∷ xs) (y ∷ ys) h g l = go (prefix_less n xs ys h.1 g.1) (nat_cmp x y) refl (ranked x y (nat_cmp x y) refl)
  where
    go : (digits n xs < digits n ys → slice_cmp nat_cmp xs ys ≡ Less) → (r : Ordering) → nat_cmp x y ≡ r → MatchOrdering r (x < y) (x ≡ y) (y < x) → slice_cmp nat_cmp (x ∷ xs) (y ∷ ys) ≡ Less
    go again Less e m = ap (λ (r : Ordering). ordering_then r (slice_cmp nat_cmp xs ys)) e
    go again Equal e m =
        let same : 256 ^ n * x ≡ 256 ^ n * y = ap (λ k. 256 ^ n * k) m in
        ap (λ (r : Ordering). ordering_then r (slice_cmp nat_cmp xs ys)) e ∙ again (omega (arith, l, same))
    go again Greater e m =
        let b = below n ys g.1 in
        let next : suc y ≤ x = omega (arith, m) in
        let more = mul-le-mul_left (256 ^ n) next in
        let d = mul-suc (256 ^ n) y in
        absurd (omega (arith, l, b, more, d))
prefix_less n xs ys h g l = absurd (omega (arith, l))

-- numbers that are the prefixes of two keys, and these where the prefixes are equal, are in the order of the keys
pub agree_prefix : (a b : ℕ) (xs ys : List ℕ) → AreBytes xs → AreBytes ys → a ≡ prefix_of xs → b ≡ prefix_of ys → ordering_then (nat_cmp a b) (slice_cmp nat_cmp xs ys) ≡ key_cmp Bytewise xs ys
agree_prefix a b xs ys h g e f = go (nat_cmp a b) refl (ranked a b (nat_cmp a b) refl)
  where
    go : (r : Ordering) → nat_cmp a b ≡ r → MatchOrdering r (a < b) (a ≡ b) (b < a) → ordering_then (nat_cmp a b) (slice_cmp nat_cmp xs ys) ≡ slice_cmp nat_cmp xs ys
    go Less c m = ap (λ (r : Ordering). ordering_then r (slice_cmp nat_cmp xs ys)) c ∙ sym (prefix_less 8 xs ys h g (omega (arith, m, e, f)))
    go Equal c m = ap (λ (r : Ordering). ordering_then r (slice_cmp nat_cmp xs ys)) c
    go Greater c m =
        ap (λ (r : Ordering). ordering_then r (slice_cmp nat_cmp xs ys)) c
        ∙ sym ((key_cmp_total Bytewise).antisymm xs ys ∙ ap ordering_reverse (prefix_less 8 ys xs g h (omega (arith, m, e, f))))

-- ---- the number itself

-- the first n of eight bytes
pub kept_part : (xs : List ℕ) (n : ℕ) → AreBytes xs → 8 ≤ length xs → 0 < n → n < 8 → from_be_bytes w64 (take 8 xs) / 2 ^ (64 - 8 * n) * 2 ^ (64 - 8 * n) ≡ prefix_of (take n xs)
kept_part (a ∷ b ∷ c ∷ d ∷ e ∷ f ∷ g ∷ h ∷ rest) n k l p q = by_count n p q
  where
    by_count : (n : ℕ) → 0 < n → n < 8 → from_be_bytes w64 (take 8 (a ∷ b ∷ c ∷ d ∷ e ∷ f ∷ g ∷ h ∷ rest)) / 2 ^ (64 - 8 * n) * 2 ^ (64 - 8 * n) ≡ prefix_of (take n (a ∷ b ∷ c ∷ d ∷ e ∷ f ∷ g ∷ h ∷ rest))
    by_count zero p q = absurd (omega (arith, p))
    by_count (suc (suc (suc (suc (suc (suc (suc (suc m)))))))) p q = absurd (omega (arith, q))
    by_count n p q = omega (arith, k.1.0, k.1.1.0, k.1.1.1.0, k.1.1.1.1.0, k.1.1.1.1.1.0, k.1.1.1.1.1.1.0, k.1.1.1.1.1.1.1.0)
kept_part xs n k l p q = absurd (omega (arith, l))

pub kept_whole : (xs : List ℕ) (n : ℕ) → 8 ≤ length xs → 8 ≤ n → from_be_bytes w64 (take 8 xs) ≡ prefix_of (take n xs)
kept_whole (a ∷ b ∷ c ∷ d ∷ e ∷ f ∷ g ∷ h ∷ rest) (suc (suc (suc (suc (suc (suc (suc (suc m)))))))) l q = omega arith
kept_whole xs n l q = absurd (omega (arith, l, q))

pub kept_read : (xs : List ℕ) (n : ℕ) (word r : ℕ) → AreBytes xs → 8 ≤ length xs → word ≡ from_be_bytes w64 (take 8 xs)
    → (8 ≤ n → r ≡ word) → (n ≡ 0 → r ≡ 0) → (0 < n → n < 8 → r ≡ word / 2 ^ (64 - 8 * n) * 2 ^ (64 - 8 * n)) → r ≡ prefix_of (take n xs)
kept_read xs zero word r h l w a b c = b refl
kept_read xs (suc n) word r h l w a b c = elim (cases_lt (suc n) 8) [
  | inl p ↦ c (omega arith) p ∙ ap (λ k. k / 2 ^ (64 - 8 * suc n) * 2 ^ (64 - 8 * suc n)) w ∙ kept_part xs (suc n) h l (omega arith) p
  | inr p ↦ a p ∙ w ∙ kept_whole xs (suc n) l p
]
