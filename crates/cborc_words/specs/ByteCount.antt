-- Numbers of bytes as arguments: digits, and then a unit or nothing.
use Rattle.std.specs.Prelude.{ℕ, ◌-◌, ◌*◌, ◌^◌, ◌≤◌, ◌==◌, ◌||◌, if◌then◌else◌, Option, Some, None, is_some, option_and_then, unwrap_or, length, take, slice_get}
use Rattle.std.specs.Str.Parse.{IsNumeral, digits_value, without_leading_plus}
use Rattle.clap.specs.Words.{Text}

-- the number of bytes of a unit: K, M and G, in either case, are powers of 1024
abbrev pub unit_size : ℕ → Option ℕ
unit_size byte =
    if byte == 75 || byte == 107 then Some (2 ^ 10)
    else if byte == 77 || byte == 109 then Some (2 ^ 20)
    else if byte == 71 || byte == 103 then Some (2 ^ 30)
    else None

-- the size of the unit at the end of an argument, if it has one
abbrev pub last_unit_size : Text → Option ℕ
last_unit_size word = option_and_then unit_size (slice_get word (length word - 1))

-- the argument without that unit
abbrev pub without_unit : Text → Text
without_unit word = if is_some (last_unit_size word) then take (length word - 1) word else word

-- the number of bytes that an argument gives
abbrev pub byte_count : Text → ℕ
byte_count word = digits_value 10 (without_leading_plus (without_unit word)) * unwrap_or (last_unit_size word) 1

-- an argument gives a number of bytes: it has digits, maybe a plus sign before and a unit after them, and gives at most 2^62
pub record IsByteCount (word : Text) : Type 0 where
  pub digits : IsNumeral 10 (without_leading_plus (without_unit word))
  pub within : byte_count word ≤ 2 ^ 62
