-- The line and column, both from 1, of the first byte of a text that is not hex text.
use Rattle.std.specs.Prelude.{ℕ, ◌≡◌, ◌+◌, ◌-◌, ◌^◌, ◌<◌, ◌⊎◌, ◌==◌, if◌then◌else◌, min, true, List, length, take, slice_index, fold, Some, None, IsSome}
use Rattle.hex.specs.Hex.{hex_digit_value}
use Rattle.cborc_files.specs.declared.hex_text.DigitsFault.TheVariants as faults
use Rattle.cborc_files.specs.{declared.hex_text.DigitsFault.DigitsFault, declared.hex_text.HexError.HexError, Digits.DigitsView, Hex.is_white}

-- the next number, up to the maximum
abbrev pub next : ℕ → ℕ
next n = min (n + 1) (2 ^ 64 - 1)

-- the line after a byte on this line: a line feed ends it
abbrev pub line_after : ℕ → ℕ → ℕ
line_after line byte = if byte == 10 then next line else line

-- the column after a byte in this column
abbrev pub column_after : ℕ → ℕ → ℕ
column_after column byte = if byte == 10 then 1 else next column

-- the position is at the start of a text
pub record IsAtStart (d : DigitsView) : Type 0 where
  pub line : d.line ≡ 1
  pub column : d.column ≡ 1

-- the position moves past these bytes
pub record MovesOn (text : List ℕ) (old new : DigitsView) : Type 0 where
  pub line : new.line ≡ fold line_after old.line text
  pub column : new.column ≡ fold column_after old.column text

-- a byte of hex text: a digit, or white space
abbrev pub IsOfHexText : ℕ → Type 0
IsOfHexText byte = (is_white byte ≡ true) ⊎ IsSome (hex_digit_value byte)

-- this is the first of these bytes that is neither, and its position
pub record IsOtherAt (text : List ℕ) (old : DigitsView) (e : HexError) (at : ℕ) : Type 0 where
  pub within : at < length text
  pub digits : (k : ℕ) → k < at → IsOfHexText (slice_index text k)
  pub other : IsOfHexText (slice_index text at) → ⊥
  pub line : e.line ≡ fold line_after old.line (take at text)
  pub column : e.column ≡ fold column_after old.column (take at text)
  pub byte : e.byte ≡ Some (slice_index text at)

-- an error in the text reports that byte
abbrev pub IsFirstOther : List ℕ → DigitsView → DigitsFault → Type 0
IsFirstOther text old (faults.NotHex e) = (at : ℕ) × IsOtherAt text old e at
IsFirstOther text old _ = Unit {0}

-- the error is at the end of the text, whose last digit has no second digit
abbrev pub IsLastAlone : DigitsView → DigitsFault → Type 0
IsLastAlone d fault = fault ≡ faults.NotHex (record { line = d.line; column = d.column; byte = None })
