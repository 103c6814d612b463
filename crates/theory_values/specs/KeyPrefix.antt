-- The first eight bytes of a key as a number (RFC 8949, section 4.2.1).
use Rattle.std.specs.Prelude.{ℕ, zero, suc, ◌+◌, ◌*◌, ◌^◌, List, [], ◌∷◌}

-- the number of the first n bytes, the highest first; a missing byte counts as 0
abbrev pub digits : ℕ → List ℕ → ℕ
digits zero xs = 0
digits (suc n) [] = 0
digits (suc n) (x ∷ xs) = 256 ^ n * x + digits n xs

-- the key with the lower prefix comes first in the bytewise order
abbrev pub prefix_of : List ℕ → ℕ
prefix_of = digits 8
