-- The input at a path, and its prefixes.
use Rattle.std.specs.Prelude.{ℕ, ◌≡◌, Bool, true, false, List, take, Option, Ok}
use Rattle.std.specs.List.{filter}
use Rattle.hex.specs.Hex.{decode_of, decode_pairs}
use Rattle.cborc_files.specs.Folder.{Files, Holds, IsNoDigits}
use Rattle.cborc_files.specs.Hex.{is_kept}

-- The bytes of the input at a path: those of the file, or those that its hex text encodes, without white space.
abbrev pub IsInput : Option Files → List ℕ → Bool → List ℕ → Type 0
IsInput held path false input = Holds held path input
IsInput held path true input = (text : List ℕ) × Holds held path text × (decode_of (filter is_kept text) ≡ Ok input)

-- These bytes are a prefix of the input: the first bytes of the file, or those that the first digits of hex text encode in pairs, whether or not all of it
-- is hex text.
abbrev pub IsPrefix : Option Files → List ℕ → Bool → List ℕ → Type 0
IsPrefix held path false bytes = (whole : List ℕ) × (count : ℕ) × Holds held path whole × (bytes ≡ take count whole)
IsPrefix held path true bytes = (text : List ℕ) × (count : ℕ) × Holds held path text × (decode_pairs 0 (take count (filter is_kept text)) ≡ Ok bytes)

-- the text is read as hex text, and is not hex text
abbrev pub IsNotHex : Option Files → List ℕ → Bool → Type 0
IsNotHex held path true = IsNoDigits held path
IsNotHex held path false = ⊥
