-- What hex text encodes, if it arrives in parts.
use Rattle.std.specs.Prelude.{ℕ, ◌≡◌, ◌≤◌, ◌∷◌, ◌++◌, List, [], length, Option, Some, None, Ok, IsErr}
use Rattle.std.specs.List.{filter}
use Rattle.hex.specs.Hex.{decode_of, decode_pairs, hex_digit_value}
use Rattle.cborc_files.specs.declared.hex_text.DigitsFault.TheVariants as faults
use Rattle.cborc_files.specs.{Hex.is_kept, declared.hex_text.DigitsFault.DigitsFault}

-- the decoder's state after a text, as contracts see it
pub record DigitsView : Type 0 where
  -- the value of a first digit whose second digit is expected, if there is one
  pub high : Option ℕ
  -- the position of the next byte
  pub line : ℕ
  pub column : ℕ

-- these digits encode these bytes, with one more digit of this value, if there is one
abbrev pub EndsIn : List ℕ → List ℕ → Option ℕ → Type 0
EndsIn digits pairs None = digits ≡ pairs
EndsIn digits pairs (Some value) = (digit : ℕ) × (digits ≡ pairs ++ digit ∷ []) × (hex_digit_value digit ≡ Some value)

-- the digits of this text encode these bytes; the second digit of another byte may be missing
pub record Spells (text spelled : List ℕ) (d : DigitsView) : Type 0 where
  pub pairs : List ℕ
  pub ends : EndsIn (filter is_kept text) pairs d.high
  pub is : decode_pairs 0 pairs ≡ Ok spelled

-- After any text, these bytes of it encode the bytes that were added, which are at most as many.
pub record SpellsOn (text : List ℕ) (old new : DigitsView) (before after : List ℕ) : Type 0 where
  pub more : List ℕ
  pub added : after ≡ before ++ more
  pub few : length more ≤ length text
  pub goes_on : (earlier spelled : List ℕ) → Spells earlier spelled old → Spells (earlier ++ text) (spelled ++ more) new

-- after any text, these bytes are not hex text, whatever follows them
abbrev pub IsHexErrorIn : List ℕ → DigitsView → Type 0
IsHexErrorIn text d = (earlier spelled more : List ℕ) → Spells earlier spelled d → IsErr (decode_of (filter is_kept (earlier ++ (text ++ more))))

-- a text that ends here is hex text, and what was decoded is all that it encodes
abbrev pub IsWhole : DigitsView → Type 0
IsWhole d = (text spelled : List ℕ) → Spells text spelled d → decode_of (filter is_kept text) ≡ Ok spelled

-- the error is in the text: a byte is neither a digit nor white space, or the last digit has no second digit
abbrev pub IsOfText : DigitsFault → Type 0
IsOfText (faults.NotHex hex_error) = Unit {0}
IsOfText _ = ⊥
