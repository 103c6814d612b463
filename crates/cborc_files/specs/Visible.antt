-- A path as messages show it.
use Rattle.std.specs.Prelude.{ℕ, ◌++◌, List, [], codes, encode_utf8, false, flat_map, if◌then◌else◌}
use Rattle.std.specs.Fmt.{digits, format_spec, padded_integral}
use Rattle.std.specs.Str.{chars}
use Rattle.cbor_text.specs.Hidden.{is_hidden}

-- a number in lower-case hex, filled up with zeros to four digits: what `{:04x}` writes
abbrev pub four_digits : ℕ → List ℕ
four_digits number = padded_integral (format_spec 32 0 4 4 18446744073709551615) false [] (digits 16 false number)

-- a character as it is shown
abbrev pub visible_character : ℕ → List ℕ
visible_character code = if is_hidden code then codes "\\u" ++ four_digits code else encode_utf8 code

-- a path as it is shown
abbrev pub visible_text : List ℕ → List ℕ
visible_text path = flat_map visible_character (chars path)
