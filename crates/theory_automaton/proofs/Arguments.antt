-- Arguments, byte by byte.
use Rattle.std.proofs.Common.{◌≡◌, ℕ, zero, suc, ◌+◌, ◌-◌, ◌*◌, ◌/◌, ◌%◌, ◌^◌, ◌<◌, ◌≤◌, List, [], ◌∷◌, length, refl, sym, ap, ◌∙◌, arith, pow-suc, mul_comm, ap₂, mul-le-mul_right, div-one}
use Rattle.std.{proofs.Math.Nat.pow-le-pow_right, proofs.Math.Arith.mod-mul, proofs.lemmas.Nat.div-mul-add, specs.List.AllByRecursion}
use Rattle.std.specs.Int.{byte_at, bytes_high_first}

-- the number that these bytes make after acc
abbrev pub number : ℕ → List ℕ → ℕ
number acc [] = acc
number acc (c ∷ cs) = number (acc * 256 + c) cs

-- one more byte before the low k bytes
pub byte_on : (k n high : ℕ) → (high * 256 + byte_at k n) * 256 ^ k + n % 256 ^ k ≡ high * 256 ^ suc k + n % 256 ^ suc k
byte_on zero n high = omega arith
byte_on (suc k) n high =
    let unit = 256 ^ suc k in
    let wider : 256 ^ suc (suc k) ≡ 256 * unit = pow-suc 256 (suc k) ∙ mul_comm unit 256 in
    let some : 0 < unit = pow-le-pow_right {n = 256} (omega arith) {i = 0} {j = suc k} (omega arith) in
    rw (wider, mod-mul n {m = 256} {c = unit} (omega arith) some) (omega arith)

-- the number is at least acc and below acc + 1, each times 256 for each byte
pub number-between : (acc : ℕ) (cs : List ℕ) → AllByRecursion (λ b. b < 256) cs → (acc * 256 ^ length cs ≤ number acc cs) × (number acc cs < (acc + 1) * 256 ^ length cs)
number-between acc [] h = (omega arith, omega arith)
number-between acc (c ∷ cs) h =
    let ih = number-between (acc * 256 + c) cs h.1 in
    let unit = 256 ^ length cs in
    let wider : 256 ^ suc (length cs) ≡ 256 * unit = pow-suc 256 (length cs) ∙ mul_comm unit 256 in
    let b : c < 256 = h.0 in
    let up : (acc * 256 + c + 1) * unit ≤ ((acc + 1) * 256) * unit = mul-le-mul_right unit (omega arith) in
    let down : (acc * 256) * unit ≤ (acc * 256 + c) * unit = mul-le-mul_right unit (omega arith) in
    (rw wider (omega (arith, ih.0, down)), rw wider (omega (arith, ih.1, up)))

byte_at-pow : (k x : ℕ) → byte_at k x ≡ x / 256 ^ k % 256
byte_at-pow zero x = ap (λ (y : ℕ). y % 256) (sym (div-one x))
byte_at-pow (suc k) x = refl

-- the byte at the start
byte-prefix : (k acc c n : ℕ) → c < 256 → (acc * 256 + c) * 256 ^ k ≤ n → n < (acc * 256 + c + 1) * 256 ^ k → byte_at k n ≡ c
byte-prefix k acc c n h lo hi =
    let r : ℕ = n - (acc * 256 + c) * 256 ^ k in
    let small : r < 256 ^ k = omega arith in
    let made : n ≡ (acc * 256 + c) * 256 ^ k + r = omega arith in
    let quotient : n / 256 ^ k ≡ acc * 256 + c = ap (λ (x : ℕ). x / 256 ^ k) made ∙ div-mul-add (acc * 256 + c) (256 ^ k) r small in
    byte_at-pow k n ∙ ap (λ (x : ℕ). x % 256) quotient ∙ omega arith

-- the bytes of a number are those that made it
pub bytes-number : (acc : ℕ) (cs : List ℕ) → AllByRecursion (λ b. b < 256) cs → bytes_high_first (length cs) (number acc cs) ≡ cs
bytes-number acc [] h = refl
bytes-number acc (c ∷ cs) h =
    let b = number-between (acc * 256 + c) cs h.1 in
    ap₂ ◌∷◌ (byte-prefix (length cs) acc c (number (acc * 256 + c) cs) h.0 b.0 b.1) (bytes-number (acc * 256 + c) cs h.1)
