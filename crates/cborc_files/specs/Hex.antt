-- What hex text ignores.
use Rattle.std.specs.Prelude.{ℕ, Bool, ◌==◌, ◌||◌, not}

-- a tab, a line feed, a carriage return or a space
abbrev pub is_white : ℕ → Bool
is_white b = b == 9 || b == 10 || b == 13 || b == 32

-- a byte that is not white space
abbrev pub is_kept : ℕ → Bool
is_kept b = not (is_white b)
