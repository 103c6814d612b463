-- The argument after a first byte, and the head that both encode.
use Rattle.std.proofs.Common.{◌≡◌, ℕ, ◌+◌, ◌*◌, ◌%◌, ◌<◌, ◌≤◌, List, ◌∷◌, ◌++◌, drop, get_or, sym, ap, ◌∙◌, arith}
use Rattle.std.proofs.lemmas.Bool.Decides.{nat_tests}
use Rattle.cbor_head.specs.Prelude.{IsHead, major_number, shortest, with_argument}
use Rattle.cbor_head.specs.declared.major.Major.TheVariants.{Array, Map, Tag, Simple}
use Rattle.cbor_head.specs.declared.width.Width.TheVariants.{Direct, One, Indefinite}
use Rattle.cbor_head.specs.{declared.major.Major.Major, declared.width.Width.Width, Argument.IsArgument}
use Rattle.theory_automaton.proofs.Taking.{IsNumbered}
use Rattle.theory_verdicts.proofs.Heads.{takes}

-- ---- arguments

pub direct-is : (n : ℕ) → n < 24 → shortest n ≡ Direct
direct-is n h = grind (arith, nat_tests)

-- a head of one byte
pub direct_head : (m : Major) (n : ℕ) → n < 24 → IsHead m Direct n
direct_head Simple n h = ((omega (arith, h), λ l. absurd (omega (arith, l, h))), sym (direct-is n h))
direct_head _ n h = h

-- the low bits of each width
pub low_bits : (low : ℕ) (following : List ℕ) (w : Width) (n : ℕ) (rest : List ℕ) → IsArgument low following w n rest → low ≤ 24 → (low ≡ 24 → 32 ≤ n) → w ≡ shortest n
low_bits low following Direct n rest a l wide = sym (direct-is n a.holds)
low_bits low following One n rest a l wide =
    let e : 0 + low ≡ 0 + 24 = ap (λ (xs : List ℕ). get_or xs 0 0) (a.spelled 0) in
    let g : 32 ≤ n = wide (omega (arith, e)) in
    sym (middle (omega (arith, a.holds)) (omega (arith, g)))
  where
    middle : n < 256 → 24 ≤ n → shortest n ≡ One
    middle h g = grind (arith, nat_tests)
low_bits low following Indefinite n rest a l wide = absurd a.holds
low_bits low following _ n rest a l wide = let e = ap (λ (xs : List ℕ). get_or xs 0 0) (a.spelled 0) in absurd (omega (arith, e, l))

-- the byte after f8
pub number_byte : (following : List ℕ) (w : Width) (n : ℕ) (rest : List ℕ) → IsArgument 24 following w n rest → following ≡ (n % 256) ∷ rest
number_byte following One n rest a = ap (drop 1) (a.spelled 0)
number_byte following Direct n rest a = let e : 0 + 24 ≡ 0 + n = ap (λ (xs : List ℕ). get_or xs 0 0) (a.spelled 0) in let h : n < 24 = a.holds in absurd (omega (arith, e, h))
number_byte following Indefinite n rest a = absurd a.holds
number_byte following _ n rest a = let e = ap (λ (xs : List ℕ). get_or xs 0 0) (a.spelled 0) in absurd (omega (arith, e))

-- ---- the major type

pub fits : (m : Major) (low c d : ℕ) → c ≡ 32 * major_number m + low → low < 32 → (128 ≤ c → c < 224 → 1 ≤ d) → takes m ≤ d
fits Array low c d e l space = space (omega (arith, e)) (omega (arith, e, l))
fits Map low c d e l space = space (omega (arith, e)) (omega (arith, e, l))
fits Tag low c d e l space = space (omega (arith, e)) (omega (arith, e, l))
fits _ low c d e l space = omega arith

pub numbered : (m : Major) (low c : ℕ) → c ≡ 32 * major_number m + low → c < 224 → IsNumbered m
numbered Simple low c e l = absurd (omega (arith, e, l))
numbered _ low c e l = tt

module _ (first : ℕ) (following : List ℕ) where
  -- what the head spells, by its type
  pub spells : (base : ℕ) (w : Width) (n : ℕ) (rest : List ℕ) → IsArgument (first % 32) following w n rest → base + first % 32 ≡ first → first ∷ following ≡ with_argument w base n ++ rest
  spells base w n rest a e = ap (λ (x : ℕ). x ∷ following) (sym e) ∙ a.spelled base
