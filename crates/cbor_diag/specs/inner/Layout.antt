-- Text in either layout, as it is written: members one after another, each after a gap.
use Rattle.std.specs.Prelude.{ℕ, ◌+◌, Bool, true, false, if◌then◌else◌, List, [], ◌∷◌, ◌++◌, codes, decimal}
use Rattle.cbor_head.specs.Value as value
use Rattle.cbor_head.specs.Prelude.{Value, Values, Entries}
use Rattle.cbor_diag.specs.{Text.text, IndentedText.new_line, IndentedText.indented, declared.layout.Layout.Layout}
use Rattle.cbor_diag.specs.declared.layout.Layout.TheVariants.{OneLine, Indented}

-- the gap before a member, the first one or a later one
abbrev pub gap : Layout → ℕ → Bool → List ℕ
gap OneLine level first = if first then [] else codes ", "
gap Indented level first = (if first then [] else codes ",") ++ new_line (level + 1)

-- the text after the last member, if there is one
abbrev pub end : Layout → ℕ → Bool → List ℕ
end OneLine level none = []
end Indented level none = if none then [] else new_line level

-- the texts of the members or pairs that are left; the flag says whether the first of all is among them
abbrev pub rows : Layout → ℕ → Bool → List (List ℕ) → List ℕ
rows l level first [] = end l level first
rows l level first (t ∷ ts) = gap l level first ++ t ++ rows l level false ts

abbrev mutual
  -- the text of a value at a level
  pub laid_out : Layout → ℕ → Value → List ℕ
  laid_out l level (value.array vs) = codes "[" ++ rows l level true (laid_texts l (level + 1) vs) ++ codes "]"
  laid_out l level (value.map es) = codes "{" ++ rows l level true (laid_pairs l (level + 1) es) ++ codes "}"
  laid_out l level (value.tag n v) = decimal n ++ codes "(" ++ laid_out l level v ++ codes ")"
  laid_out l level v = text v

  -- the texts of the members
  pub laid_texts : Layout → ℕ → Values → List (List ℕ)
  laid_texts l level value.no_values = []
  laid_texts l level (value.a_value v vs) = laid_out l level v ∷ laid_texts l level vs

  -- the texts of the pairs, in their order
  pub laid_pairs : Layout → ℕ → Entries → List (List ℕ)
  laid_pairs l level value.no_entries = []
  laid_pairs l level (value.entry k v es) = (laid_out l level k ++ codes ": " ++ laid_out l level v) ∷ laid_pairs l level es

-- the text of a value
abbrev pub shown : Layout → Value → List ℕ
shown OneLine v = text v
shown Indented v = indented 0 v
