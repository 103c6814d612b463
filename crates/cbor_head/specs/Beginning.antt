-- The beginnings of items (RFC 8949, section 3 and appendix F).
use Rattle.std.specs.Prelude.{ℕ, ◌≡◌, ◌≤◌, ◌++◌, List, [], ◌∷◌, length}
use Rattle.cbor_head.specs.Spelling.{Spelling, IsItem}

-- some item that is well-formed within the depth starts with these bytes
abbrev pub IsBeginning : ℕ → List ℕ → Type 0
IsBeginning d p = (s : Spelling) × (rest : List ℕ) × IsItem d s (p ++ rest)

-- this byte may follow p
abbrev pub MayFollow : ℕ → List ℕ → ℕ → Type 0
MayFollow d p c = IsBeginning d (p ++ c ∷ [])

-- p is the longest beginning that b starts with
pub record IsLongestBeginning (d : ℕ) (b p : List ℕ) : Type 0 where
  pub beginning : IsBeginning d p
  pub rest : List ℕ
  pub splits : b ≡ p ++ rest
  pub longest : (q r : List ℕ) → IsBeginning d q → b ≡ q ++ r → length q ≤ length p
