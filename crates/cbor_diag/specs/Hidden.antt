-- Characters of a text in UTF-8 that a terminal acts on and does not show, beyond those of ASCII.
use Rattle.std.specs.Prelude.{ℕ, ◌+◌, ◌-◌, ◌*◌, ◌&&◌, ◌||◌, Bool, false, List, [], ◌∷◌}
use Rattle.cbor_text.specs.Hidden.{is_between, is_hidden}

-- the UTF-8 of one in two bytes
abbrev pub is_hidden_pair : ℕ → ℕ → Bool
is_hidden_pair a b = is_between 0xc2 0xdf a && is_between 0x80 0xbf b && is_hidden (64 * (a - 0xc0) + (b - 0x80))

-- the UTF-8 of one in three bytes
abbrev pub is_hidden_triple : ℕ → ℕ → ℕ → Bool
is_hidden_triple a b c =
    is_between 0xe0 0xef a && is_between 0x80 0xbf b && is_between 0x80 0xbf c && is_hidden (4096 * (a - 0xe0) + 64 * (b - 0x80) + (c - 0x80))

-- a text begins with one
abbrev pub begins_hidden : List ℕ → Bool
begins_hidden (a ∷ b ∷ []) = is_hidden_pair a b
begins_hidden (a ∷ b ∷ c ∷ rest) = is_hidden_pair a b || is_hidden_triple a b c
begins_hidden _ = false

-- a text has one
abbrev pub has_hidden : List ℕ → Bool
has_hidden [] = false
has_hidden (b ∷ bs) = begins_hidden (b ∷ bs) || has_hidden bs
