-- Diagnostic text with one member or pair a line (RFC 8949, section 8).
use Rattle.std.specs.Prelude.{ℕ, ◌+◌, ◌*◌, List, [], ◌∷◌, ◌++◌, flat_map, codes, decimal, replicate}
use Rattle.cbor_head.specs.Value as value
use Rattle.cbor_head.specs.Prelude.{Value, Values, Entries}
use Rattle.cbor_diag.specs.Text.{text}

-- a line feed and two spaces for each level
abbrev pub new_line : ℕ → List ℕ
new_line level = codes "\n" ++ replicate (2 * level) 0x20

-- the texts, each on its own line, joined by commas, one level deeper than the closing bracket
abbrev pub lines : ℕ → List (List ℕ) → List ℕ
lines level [] = []
lines level (t ∷ ts) =
    let line = new_line (level + 1) in
    line ++ t ++ flat_map (λ (u : List ℕ). codes "," ++ line ++ u) ts ++ new_line level

abbrev mutual
  -- the text of a value at a level
  pub indented : ℕ → Value → List ℕ
  indented level (value.array vs) =
      codes "[" ++ lines level (indented_texts (level + 1) vs) ++ codes "]"
  indented level (value.map es) =
      codes "{" ++ lines level (indented_pairs (level + 1) es) ++ codes "}"
  indented level (value.tag n v) = decimal n ++ codes "(" ++ indented level v ++ codes ")"
  indented level v = text v

  -- the texts of the members
  pub indented_texts : ℕ → Values → List (List ℕ)
  indented_texts level value.no_values = []
  indented_texts level (value.a_value v vs) = indented level v ∷ indented_texts level vs

  -- the texts of the pairs, in their order
  pub indented_pairs : ℕ → Entries → List (List ℕ)
  indented_pairs level value.no_entries = []
  indented_pairs level (value.entry k v es) =
      (indented level k ++ codes ": " ++ indented level v) ∷ indented_pairs level es
