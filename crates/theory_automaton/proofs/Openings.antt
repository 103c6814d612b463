-- What holds for everything that a first byte can open.
use Rattle.std.proofs.Common.{◌≡◌, ℕ, zero, suc, ◌+◌, ◌-◌, ◌*◌, ◌^◌, ◌<◌, ◌∷◌, refl, sym, subst, inl, inr, arith, lt-ltb, le-ltb}
use Rattle.std.{proofs.lemmas.Bool.cases_lt, specs.Int.bytes_high_first}
use Rattle.cbor_head.specs.Prelude.{Holds, head, major_number}
use Rattle.cbor_head.specs.declared.width.Width.TheVariants.{One, Two, Four, Eight}
use Rattle.cbor_head.specs.declared.{major.Major.Major, major.Major.TheVariants.Simple, width.Width.Width}
use Rattle.theory_automaton.specs.Automaton.{Opening, direct, long, long_simple, breaks, bad, numbered_tail, simple_tail, tail, indefinite_length, opening_of, opening}
use Rattle.theory_automaton.{specs.Trace.more_bytes, proofs.FirstByte.split, proofs.Agrees.IsNumbered}

-- the first byte is followed by an argument of k + 1 bytes
pub record IsLong (m : Major) (w : Width) (k low : ℕ) : Type 0 where
  pub made : (n : ℕ) → head m w n ≡ (32 * major_number m + low) ∷ bytes_high_first (suc k) n
  pub holds : (n : ℕ) → n < 256 ^ suc k → Holds w n
  pub size : more_bytes w ≡ suc k

module _ (P : ℕ → Opening → Type 0) (of_direct : (m : Major) (n : ℕ) → n < 24 → P (32 * major_number m + n) (direct m n))
    (of_long : (m : Major) (w : Width) (k low : ℕ) → IsNumbered m → IsLong m w k low → P (32 * major_number m + low) (long m w)) (of_open : (m : Major) → P (32 * major_number m + 31) (indefinite_length m))
    (of_simple : P 0xf8 long_simple) (of_break : P 0xff breaks) (of_bad : (c : ℕ) → P c bad) where
  numbered : (m : Major) (k : ℕ) → IsNumbered m → P (32 * major_number m + (24 + k)) (numbered_tail m k)
  numbered m zero i = of_long m One 0 24 i (record { made = λ n. refl; holds = λ n h. h; size = refl })
  numbered m (suc zero) i = of_long m Two 1 25 i (record { made = λ n. refl; holds = λ n h. h; size = refl })
  numbered m (suc (suc zero)) i = of_long m Four 3 26 i (record { made = λ n. refl; holds = λ n h. h; size = refl })
  numbered m (suc (suc (suc zero))) i = of_long m Eight 7 27 i (record { made = λ n. refl; holds = λ n h. h; size = refl })
  numbered m (suc (suc (suc (suc (suc (suc (suc zero))))))) i = of_open m
  numbered m _ i = of_bad _

  simple : (k : ℕ) → P (32 * 7 + (24 + k)) (simple_tail k)
  simple zero = of_simple
  simple (suc (suc (suc (suc (suc (suc (suc zero))))))) = of_break
  simple _ = of_bad _

  tails : (m : Major) (k : ℕ) → P (32 * major_number m + (24 + k)) (tail m k)
  tails Simple k = simple k
  tails m k = numbered m k tt

  pub by-low : (m : Major) (low : ℕ) → P (32 * major_number m + low) (opening_of m low)
  by-low m low = elim (cases_lt low 24) [
    | inl h ↦ rw (lt-ltb low 24 h) (of_direct m low h)
    | inr h ↦
        let above : 24 + (low - 24) ≡ low = omega arith in
        rw (le-ltb low 24 h) (subst (λ (x : ℕ). P (32 * major_number m + x) (tail m (low - 24))) above (tails m (low - 24)))
  ]

  pub by-byte : (c : ℕ) → c < 256 → P c (opening c)
  by-byte c h =
      let s = split c h in
      rw s.opens (subst (λ (x : ℕ). P x (opening_of s.major s.low)) (sym s.made) (by-low s.major s.low))
