-- The bytes around an offset, as two lines.
use Rattle.std.specs.Prelude.{ℕ, ◌+◌, ◌-◌, ◌*◌, ◌/◌, ◌%◌, min, nat_lt, if◌then◌else◌, List, [], ◌∷◌, ◌++◌, length, take, drop, flat_map, replicate, codes, decimal}

-- the hex digit of a number below 16
abbrev pub digit : ℕ → ℕ
digit n = if nat_lt n 10 then 48 + n else 87 + n

-- a space and two hex digits for each byte
abbrev pub spaced : List ℕ → List ℕ
spaced bytes = flat_map (λ b. 32 ∷ digit (b / 16) ∷ digit (b % 16) ∷ []) bytes

-- the text before the bytes: the offset of the first of them
abbrev pub label : ℕ → List ℕ
label start = codes "  bytes from " ++ decimal start ++ codes ":"

-- a line of at most 16 bytes, and a line with a mark below the byte after the first `before` of them
abbrev pub lines_from : List ℕ → ℕ → ℕ → List ℕ
lines_from bytes start before =
    label start ++ spaced (take 16 (drop start bytes)) ++ codes "\n"
    ++ replicate (length (label start)) 32 ++ replicate (3 * before + 1) 32 ++ codes "^^\n"

-- the lines with the offset in them: at most 8 bytes before it, and those from it on
abbrev pub lines_around : List ℕ → ℕ → List ℕ
lines_around bytes place = lines_from bytes (place - min place 8) (min place 8)

-- the lines for an offset; an offset past the end is marked after the last byte
abbrev pub surroundings : List ℕ → ℕ → List ℕ
surroundings bytes place = lines_around bytes (min place (length bytes))
