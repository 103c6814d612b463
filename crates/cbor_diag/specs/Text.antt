-- Diagnostic text of a value (RFC 8949, section 8).
use Rattle.std.specs.Prelude.{ℕ, ◌+◌, ◌==◌, ◌||◌, nat_lt, if◌then◌else◌, List, [], ◌∷◌, ◌++◌, flat_map, codes, decimal}
use Rattle.hex.specs.Hex.{encode_lower}
use Rattle.cbor_head.specs.Value as value
use Rattle.cbor_head.specs.Prelude.{Value, Values, Entries}

-- a byte of a text: a backslash before a quote or a backslash; controls as \u00 and two hex digits; all else as it is
abbrev pub escaped : ℕ → List ℕ
escaped b =
    if b == 0x22 || b == 0x5c then 0x5c ∷ b ∷ []
    else if nat_lt b 0x20 || b == 0x7f then codes "\\u00" ++ encode_lower (b ∷ [])
    else b ∷ []

-- a simple value by its number
abbrev pub simple_text : ℕ → List ℕ
simple_text n =
    if n == 20 then codes "false"
    else if n == 21 then codes "true"
    else if n == 22 then codes "null"
    else if n == 23 then codes "undefined"
    else codes "simple(" ++ decimal n ++ codes ")"

-- texts joined by a comma and one space
abbrev pub joined : List (List ℕ) → List ℕ
joined [] = []
joined (t ∷ ts) = t ++ flat_map (λ (u : List ℕ). codes ", " ++ u) ts

abbrev mutual
  -- the diagnostic text of a value
  pub text : Value → List ℕ
  text (value.unsigned n) = decimal n
  text (value.negative n) = codes "-" ++ decimal (n + 1)
  text (value.bytes bs) = codes "h'" ++ encode_lower bs ++ codes "'"
  text (value.text bs) = codes "\"" ++ flat_map escaped bs ++ codes "\""
  text (value.array vs) = codes "[" ++ joined (texts vs) ++ codes "]"
  text (value.map es) = codes "{" ++ joined (pair_texts es) ++ codes "}"
  text (value.tag n v) = decimal n ++ codes "(" ++ text v ++ codes ")"
  text (value.simple n) = simple_text n

  -- the texts of the members
  pub texts : Values → List (List ℕ)
  texts value.no_values = []
  texts (value.a_value v vs) = text v ∷ texts vs

  -- the texts of the pairs, in their order
  pub pair_texts : Entries → List (List ℕ)
  pair_texts value.no_entries = []
  pair_texts (value.entry k v es) = (text k ++ codes ": " ++ text v) ∷ pair_texts es
