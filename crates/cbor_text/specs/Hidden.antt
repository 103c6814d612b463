-- Characters that a terminal acts on and does not show.
use Rattle.std.specs.Prelude.{ℕ, ◌==◌, ◌&&◌, ◌||◌, Bool, nat_le}

-- whether the code point is in this range
abbrev pub is_between : ℕ → ℕ → ℕ → Bool
is_between least most code = nat_le least code && nat_le code most

-- the control characters (C0, DELETE, C1), the separators of lines and of paragraphs (U+2028, U+2029), and the bidirectional
-- controls (U+061C, U+200E, U+200F, U+202A to U+202E, U+2066 to U+2069)
abbrev pub is_hidden : ℕ → Bool
is_hidden code =
    is_between 0 0x1f code || is_between 0x7f 0x9f code || code == 0x061c || is_between 0x200e 0x200f code || is_between 0x2028 0x202e code
    || is_between 0x2066 0x2069 code
