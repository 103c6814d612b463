-- The low bits of a mask of bytes that are not ASCII.
use Rattle.std.proofs.Common.{◌≡◌, ℕ, zero, suc, ◌+◌, ◌-◌, ◌*◌, ◌/◌, ◌%◌, ◌^◌, ◌<◌, ◌≤◌, Bool, true, false, cond, leb, List, [], ◌∷◌, map, length, take, get_or, replicate, eqb, eqb-true, refl, sym, ap, ◌∙◌, subst, arith, leb-false, mul_assoc, mul-div_cancel, pow-suc, leb-true, pow-add, take-take}
use Rattle.std.{proofs.lemmas.List.length-map, specs.Str.IsAscii, proofs.lemmas.Simd.mask_l-mod, proofs.lemmas.Simd.length-zip2}
use lib.Lanes.{zip2, mask_l, top}

abbrev pub at_least : ℕ → ℕ → ℕ
at_least a b = cond (leb a b) 255 0

abbrev pub mask_of : List ℕ → ℕ
mask_of xs = mask_l (map (top 7) (zip2 at_least (replicate (length xs) 128) xs))

bit-of : (x m X : ℕ) → cond (top 7 (at_least 128 x)) 1 0 + 2 * m ≡ X * 2 → (x < 128) × (m ≡ X)
bit-of x m X e = go (leb 128 x) refl e
  where
    go : (t : Bool) → leb 128 x ≡ t → cond (top 7 (cond t 255 0)) 1 0 + 2 * m ≡ X * 2 → (x < 128) × (m ≡ X)
    go true p q = absurd (omega (arith, q))
    go false p q = (leb-false _ _ p, omega (arith, q))

doubled : (q k : ℕ) → q * 2 ^ suc k ≡ (q * 2 ^ k) * 2
doubled q k = ap (λ j. q * j) (pow-suc 2 k) ∙ sym (mul_assoc q (2 ^ k) 2)

-- if a power of two divides the mask, that number of bytes are ASCII
pub low-ascii : (xs : List ℕ) (k q : ℕ) → mask_of xs ≡ q * 2 ^ k → (i : ℕ) → i < k → get_or xs i 0 < 128
low-ascii [] k q e i l = omega arith
low-ascii (x ∷ xs) zero q e i l = absurd (omega (arith, l))
low-ascii (x ∷ xs) (suc k) q e zero l = (bit-of x (mask_of xs) (q * 2 ^ k) (e ∙ doubled q k)).0
low-ascii (x ∷ xs) (suc k) q e (suc i) l = low-ascii xs k q (bit-of x (mask_of xs) (q * 2 ^ k) (e ∙ doubled q k)).1 i (omega (arith, l))

two-pow : (s : ℕ) → 0 < 2 ^ s
two-pow zero = omega arith
two-pow (suc s) = omega (arith, two-pow s, pow-suc 2 s)

-- a mask that becomes 0 when it is shifted until only this number of bits is left
pub shifted : (m s k : ℕ) → k + s ≡ 64 → m * 2 ^ s % 2 ^ 64 ≡ 0 → (q : ℕ) × (m ≡ q * 2 ^ k)
shifted m s k e z =
    let q = m * 2 ^ s / 2 ^ 64 in
    let whole : m * 2 ^ s ≡ q * 2 ^ 64 = omega (arith, z) in
    let split : q * 2 ^ 64 ≡ (q * 2 ^ k) * 2 ^ s = ap (λ j. q * 2 ^ j) (sym e) ∙ ap (λ j. q * j) (pow-add 2 k s) ∙ sym (mul_assoc q (2 ^ k) (2 ^ s)) in
    (q, sym (mul-div_cancel m (two-pow s)) ∙ ap (λ j. j / 2 ^ s) (whole ∙ split) ∙ mul-div_cancel (q * 2 ^ k) (two-pow s))

-- the first bytes, of those in the mask
reads-take : (n : ℕ) (xs : List ℕ) → ((k : ℕ) → k < n → get_or xs k 0 < 128) → (i : ℕ) → get_or (take n xs) i 0 < 128
reads-take (suc n) (x ∷ xs) h zero = h zero (omega arith)
reads-take (suc n) (x ∷ xs) h (suc i) = reads-take n xs (λ k l. h (suc k) (omega (arith, l))) i
reads-take n xs h i = omega arith

pub mask-ascii : (xs : List ℕ) (count : ℕ) → length xs ≡ 32 → count < 32 → eqb (mask_l (map (top 7) (zip2 at_least (replicate 32 128) xs)) % 2 ^ 64 * 2 ^ (63 - count) % 2 ^ 64) 0 ≡ true → (i : ℕ) → get_or (take (count + 1) xs) i 0 < 128
mask-ascii xs count long small e =
    let ms = map (top 7) (zip2 at_least (replicate 32 128) xs) in
    let size : length ms ≤ 64 = omega (arith, length-map (zip2 at_least (replicate 32 128) xs) (top 7), length-zip2 at_least (replicate 32 128) xs (sym long), long) in
    let zeros : mask_l ms * 2 ^ (63 - count) % 2 ^ 64 ≡ 0 = ap (λ m. m * 2 ^ (63 - count) % 2 ^ 64) (sym (mask_l-mod ms 64 size)) ∙ eqb-true _ _ e in
    let q = shifted (mask_l ms) (63 - count) (count + 1) (omega (arith, small)) zeros in
    let whole : mask_of xs ≡ q.0 * 2 ^ (count + 1) = ap (λ n. mask_l (map (top 7) (zip2 at_least (replicate n 128) xs))) long ∙ q.1 in
    reads-take (count + 1) xs (low-ascii xs (count + 1) q.0 whole)

-- ---- and the other way

abbrev bit_of : Bool → ℕ
bit_of t = cond (top 7 (cond t 255 0)) 1 0

no-bit : (x : ℕ) → x < 128 → bit_of (leb 128 x) ≡ 0
no-bit x l = go (leb 128 x) refl
  where
    go : (t : Bool) → leb 128 x ≡ t → bit_of t ≡ 0
    go true p = absurd (omega (arith, leb-true 128 x p, l))
    go false p = refl

joined : (b m X Y : ℕ) → b ≡ 0 → m ≡ X → Y ≡ X * 2 → b + 2 * m ≡ Y
joined b m X Y none e f = omega (arith, none, e, f)

-- if that number of bytes are ASCII, a power of two divides the mask
pub ascii-low : (xs : List ℕ) (k : ℕ) → ((i : ℕ) → i < k → get_or xs i 0 < 128) → (q : ℕ) × (mask_of xs ≡ q * 2 ^ k)
ascii-low xs zero h = (mask_of xs, omega arith)
ascii-low [] (suc k) h = (0, omega arith)
ascii-low (x ∷ xs) (suc k) h =
    let more = ascii-low xs k (λ i l. h (suc i) (omega (arith, l))) in
    (more.0, joined (bit_of (leb 128 x)) (mask_of xs) (more.0 * 2 ^ k) (more.0 * 2 ^ suc k) (no-bit x (h zero (omega arith))) more.1 (doubled more.0 k))

take-reads : (n : ℕ) (xs : List ℕ) → ((i : ℕ) → get_or (take n xs) i 0 < 128) → (i : ℕ) → i < n → get_or xs i 0 < 128
take-reads zero xs h i l = absurd (omega (arith, l))
take-reads (suc n) [] h i l = omega arith
take-reads (suc n) (x ∷ xs) h zero l = h zero
take-reads (suc n) (x ∷ xs) h (suc i) l = take-reads n xs (λ j. h (suc j)) i (omega (arith, l))

shifted-out : (m q s k : ℕ) → k + s ≡ 64 → m ≡ q * 2 ^ k → m * 2 ^ s % 2 ^ 64 ≡ 0
shifted-out m q s k e f =
    let split : q * 2 ^ 64 ≡ (q * 2 ^ k) * 2 ^ s = ap (λ j. q * 2 ^ j) (sym e) ∙ ap (λ j. q * j) (pow-add 2 k s) ∙ sym (mul_assoc q (2 ^ k) (2 ^ s)) in
    let whole : m * 2 ^ s ≡ q * 2 ^ 64 = ap (λ x. x * 2 ^ s) f ∙ sym split in
    omega (arith, whole)

pub ascii-mask : (xs : List ℕ) (count : ℕ) → length xs ≡ 32 → count < 32 → ((i : ℕ) → get_or (take (count + 1) xs) i 0 < 128) → eqb (mask_l (map (top 7) (zip2 at_least (replicate 32 128) xs)) % 2 ^ 64 * 2 ^ (63 - count) % 2 ^ 64) 0 ≡ true
ascii-mask xs count long small h =
    let ms = map (top 7) (zip2 at_least (replicate 32 128) xs) in
    let size : length ms ≤ 64 = omega (arith, length-map (zip2 at_least (replicate 32 128) xs) (top 7), length-zip2 at_least (replicate 32 128) xs (sym long), long) in
    let q = ascii-low xs (count + 1) (take-reads (count + 1) xs h) in
    let whole : mask_l ms ≡ q.0 * 2 ^ (count + 1) = ap (λ n. mask_l (map (top 7) (zip2 at_least (replicate n 128) xs))) (sym long) ∙ q.1 in
    let zeros : mask_l ms % 2 ^ 64 * 2 ^ (63 - count) % 2 ^ 64 ≡ 0 = ap (λ m. m * 2 ^ (63 - count) % 2 ^ 64) (mask_l-mod ms 64 size) ∙ shifted-out (mask_l ms) q.0 (63 - count) (count + 1) (omega (arith, small)) whole in
    ap (λ m. eqb m 0) zeros

-- ---- a chunk and what it is of

-- the same of what the mask was made of
pub short_ascii : (prefix chunk : List ℕ) (count last : ℕ) → last + 1 ≡ count → count ≤ 32 → chunk ≡ take 32 prefix → IsAscii (take (last + 1) chunk) → IsAscii (take count prefix)
short_ascii prefix chunk count last one small is h =
    subst IsAscii (ap (take (last + 1)) is ∙ take-take (last + 1) 32 prefix (omega (arith, one, small)) ∙ ap (λ k. take k prefix) one) h
