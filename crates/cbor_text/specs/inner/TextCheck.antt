-- The state of a check of text, and its steps.
use Rattle.std.specs.Prelude.{◌≡◌, ℕ, ◌+◌, ◌<◌, ◌≤◌, List, ◌++◌, length, take, Option, MatchOption}
use Rattle.std.specs.Str.{IsUtf8, IsValidUpTo}
use Rattle.cbor_text.specs.declared.text_check.Prefix.TheVariants.{Whole, Open, Fixed}
use Rattle.cbor_text.specs.declared.text_check.Filled.TheVariants.{Past, Short, Never}
use Rattle.cbor_text.specs.declared.text_check.{Prefix.Prefix, Filled.Filled}

-- a tail of which no prefix is text
abbrev pub IsUnfinished : List ℕ → Type 0
IsUnfinished tail = (m : ℕ) → 0 < m → m ≤ length tail → ¬ (IsUtf8 (take m tail))

-- bytes whose longest valid prefix has n bytes, whatever may follow them
abbrev pub IsFixed : List ℕ → ℕ → Type 0
IsFixed bytes n = (more : List ℕ) → IsValidUpTo (bytes ++ more) n

-- bytes that are text except for a tail of at most three bytes
pub record IsOpen (bytes tail : List ℕ) : Type 0 where
  pub prefix : List ℕ
  pub joined : bytes ≡ prefix ++ tail
  pub valid : IsUtf8 prefix
  pub short : length tail < 4
  pub unfinished : IsUnfinished tail

-- the unfinished character at the end of what was pushed; or the length of its longest valid prefix, once no byte can make
-- that longer
pub record Found : Type 0 where
  pub carried : List ℕ
  pub fault : Option ℕ

-- this is the state after these bytes
pub record IsFound (found : Found) (bytes : List ℕ) : Type 0 where
  pub is : MatchOption found.fault (IsOpen bytes found.carried) (λ n. IsFixed bytes n)

-- ---- the steps of a check

-- how much of bytes that begin at a character's start is text
abbrev pub IsJudged : List ℕ → Prefix → Type 0
IsJudged bytes Whole = IsUtf8 bytes
IsJudged bytes (Open n) = IsValidUpTo bytes n × (length bytes < n + 4)
IsJudged bytes (Fixed n) = IsFixed bytes n

-- what a piece makes of the character that the tail begins
abbrev pub IsFilled : List ℕ → List ℕ → Filled → Type 0
IsFilled tail piece (Past n) = (n ≤ length piece) × IsUtf8 (tail ++ take n piece)
IsFilled tail piece Short = (length tail + length piece < 4) × IsValidUpTo (tail ++ piece) 0
IsFilled tail piece Never = IsFixed (tail ++ piece) 0
