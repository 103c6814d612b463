-- What a test says of a statement that it decides, if its result is known.
use Rattle.std.proofs.Common.{◌≡◌, ℕ, ◌↔◌, IsTrue, nat_eq, Bool, true, false, refl, arith}
use Rattle.std.proofs.lemmas.Bool.Decides.{nat_tests}

pub was_true : {P : Type 0} (b : Bool) → b ≡ true → (IsTrue b ↔ P) → P
was_true b is e = e.0 is

pub was_false : {P : Type 0} (b : Bool) → b ≡ false → (IsTrue b ↔ P) → P → ⊥
was_false b is e p = let t : b ≡ true = e.1 p in cc

pub holds : {P : Type 0} → P → (IsTrue true ↔ P)
holds p = (λ _. p, λ _. refl)

pub fails : {P : Type 0} → (P → ⊥) → (IsTrue false ↔ P)
fails h = (λ f. absurd (cc), λ p. absurd (h p))

pub unequal : (m n : ℕ) → (m ≡ n → ⊥) → IsTrue (nat_eq m n) → ⊥
unequal m n h t = grind (arith, nat_tests)
