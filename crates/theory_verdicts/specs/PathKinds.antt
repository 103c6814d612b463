-- The kinds of keys, where an item is expected on a path.
use Rattle.std.specs.Prelude.{ℕ, ◌≡◌, ◌⊎◌, ◌/◌, IsTrue, List, [], ◌∷◌}
use Rattle.cbor_head.specs.Prelude.{Rules, Bounds}
use Rattle.theory_values.specs.FirstBytes.{is_basic}
use Rattle.theory_verdicts.specs.Path.{Level, bytes_before, IsKeyExpectedIn}
use Rattle.theory_verdicts.specs.Kinds.{AsksForKinds, KeepsToKinds}

-- an integer or a text begins with the first of these bytes, or it is a break, or there is none
abbrev pub IsFitPrefix : List ℕ → Type 0
IsFitPrefix [] = Unit {0}
IsFitPrefix (b ∷ bs) = IsTrue (is_basic (b / 32)) ⊎ (b ≡ 0xff)

-- there is a first byte, and neither an integer nor a text begins with it
abbrev pub IsOtherPrefix : List ℕ → Type 0
IsOtherPrefix [] = ⊥
IsOtherPrefix (b ∷ bs) = ¬ IsTrue (is_basic (b / 32))

-- No key of another kind begins within these containers, nor with these bytes after them.
pub record KeepsHere (limits : Bounds) (r : Rules) (ls : List Level) (b : List ℕ) : Type 0 where
  pub before : KeepsToKinds limits r (bytes_before ls)
  pub here : AsksForKinds limits r → IsKeyExpectedIn ls → IsFitPrefix b
