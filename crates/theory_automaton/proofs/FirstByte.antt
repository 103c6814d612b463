-- The first byte of a head, by its high three and low five bits.
use Rattle.std.proofs.Common.{◌≡◌, ℕ, suc, ◌+◌, ◌-◌, ◌*◌, ◌/◌, ◌%◌, ◌<◌, cond, refl, ap, ap₂, ◌∙◌, arith, mod-lt, lt-ltb}
use Rattle.cbor_head.specs.{Prelude.major_number, declared.major.Major.Major, declared.major.Major.TheVariants.Unsigned}
use Rattle.theory_automaton.specs.Automaton.{direct, major_at, opening, opening_of, tail}

pub major_at-number : (m : Major) → major_at (major_number m) ≡ m
major_at-number Unsigned = refl
major_at-number _ = refl

pub number-major_at : (k : ℕ) → k < 8 → major_number (major_at k) ≡ k
number-major_at (suc (suc (suc (suc (suc (suc (suc (suc k)))))))) h = absurd (omega arith)
number-major_at _ h = refl

high : (k n : ℕ) → n < 32 → (32 * k + n) / 32 ≡ k
high k n h = omega arith

low : (k n : ℕ) → n < 32 → (32 * k + n) % 32 ≡ n
low k n h = omega arith

pub opening-first : (m : Major) (n : ℕ) → n < 32 → opening (32 * major_number m + n) ≡ opening_of m n
opening-first m n h = ap₂ opening_of (ap major_at (high (major_number m) n h) ∙ major_at-number m) (low (major_number m) n h)

pub opening-direct : (m : Major) (n : ℕ) → n < 24 → opening (32 * major_number m + n) ≡ direct m n
opening-direct m n h =
    opening-first m n (omega arith) ∙ ap (λ b. cond b (direct m n) (tail m (n - 24))) (lt-ltb n 24 h)

-- what a first byte is made of
pub record Split (c : ℕ) : Type 0 where
  pub major : Major
  pub low : ℕ
  pub fits : low < 32
  pub made : c ≡ 32 * major_number major + low
  pub opens : opening c ≡ opening_of major low

pub split : (c : ℕ) → c < 256 → Split c
split c h = record {
  major = major_at (c / 32);
  low = c % 32;
  fits = mod-lt c (omega arith);
  made = let e : major_number (major_at (c / 32)) ≡ c / 32 = number-major_at (c / 32) (omega arith) in omega (arith, e);
  opens = refl;
}
