-- The argument of a head, by its first byte (RFC 8949, section 3).
use Rattle.std.specs.Prelude.{ℕ, ◌≡◌, ◌+◌, List, ◌∷◌, ◌++◌}
use Rattle.cbor_head.specs.{Head.Holds, Head.with_argument, declared.width.Width.Width}

-- after the low five bits of a first byte comes this argument, and then the rest
pub record IsArgument (low : ℕ) (following : List ℕ) (w : Width) (n : ℕ) (rest : List ℕ) : Type 0 where
  pub spelled : (first : ℕ) → (first + low) ∷ following ≡ with_argument w first n ++ rest
  pub holds : Holds w n
