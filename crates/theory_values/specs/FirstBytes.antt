-- Major types by their numbers: the high three bits of an item's first byte (RFC 8949, section 3).
use Rattle.std.specs.Prelude.{ℕ, ◌==◌, ◌||◌, Bool}

-- an integer or a text
abbrev pub is_basic : ℕ → Bool
is_basic n = (n == 0) || (n == 1) || (n == 3)

-- an array, a map or a tag
abbrev pub is_container : ℕ → Bool
is_container n = (n == 4) || (n == 5) || (n == 6)
