-- What the files of a folder hold.
use Rattle.std.specs.Prelude.{ℕ, ◌+◌, ◌^◌, ◌≡◌, ◌≢◌, ◌<◌, ◌++◌, Bool, List, [], codes, length, take, drop, Option, None, Some, MatchResult, Result, IsErr}
use Rattle.std.specs.{List.filter, Str.bytes_eq}
use Rattle.hex.specs.Hex.{decode_of}
use Rattle.cborc_files.specs.Hex.{is_kept}

-- whether a path is a standard stream
abbrev pub is_stream : List ℕ → Bool
is_stream path = bytes_eq path (codes "-")

-- what each path holds, `None` without a file
abbrev pub Files : Type 0
Files = List ℕ → Option (List ℕ)

-- the file at this path holds these bytes, if the folder says what it holds
abbrev pub Holds : Option Files → List ℕ → List ℕ → Type 0
Holds None path bytes = Unit {0}
Holds (Some files) path bytes = files path ≡ Some bytes

-- a file exists at this path, if the folder says what it holds
abbrev pub IsThere : Option Files → List ℕ → Type 0
IsThere None path = Unit {0}
IsThere (Some files) path = files path ≢ None

-- no file exists at this path, if the folder says what it holds
abbrev pub IsMissing : Option Files → List ℕ → Type 0
IsMissing None path = Unit {0}
IsMissing (Some files) path = files path ≡ None

-- The bytes of the file at this path after its first `from` bytes were added to the old ones: all of them, or the number
-- requested.
pub record ReadsOn (held : Option Files) (path : List ℕ) (from most : ℕ) (old new : List ℕ) : Type 0 where
  pub whole : List ℕ
  pub holds : Holds held path whole
  pub added : new ≡ old ++ take most (drop from whole)

-- the offset after the bytes that were added is below 2^63
abbrev pub IsWithin : ℕ → List ℕ → List ℕ → Type 0
IsWithin from old new = length old < length new → from + length new < 2 ^ 63 + length old

-- the text of the file at this path is not hex text
abbrev pub IsNoDigits : Option Files → List ℕ → Type 0
IsNoDigits held path = (text : List ℕ) × Holds held path text × IsErr (decode_of (filter is_kept text))

-- each path holds the same as before
abbrev pub KeepsFiles : Option Files → Option Files → Type 0
KeepsFiles None new = Unit {0}
KeepsFiles (Some old) None = ⊥
KeepsFiles (Some old) (Some new) = (path : List ℕ) → new path ≡ old path

-- this path holds these bytes, and each other path the same as before
abbrev pub ReplacesFile : Option Files → Option Files → List ℕ → List ℕ → Type 0
ReplacesFile None new path bytes = Unit {0}
ReplacesFile (Some old) None path bytes = ⊥
ReplacesFile (Some old) (Some new) path bytes = (new path ≡ Some bytes) × ((other : List ℕ) → other ≢ path → new other ≡ old other)

-- a file that was begun has no byte yet, if the folder says what it holds
abbrev pub IsBlank : Option Files → Option (List ℕ) → Type 0
IsBlank None bytes = Unit {0}
IsBlank (Some files) bytes = bytes ≡ Some []

-- a file is replaced whole, or no file is changed
abbrev pub WritesFile : {E : Type 0} → Option Files → Option Files → Result (Unit {0}) E → List ℕ → List ℕ → Type 0
WritesFile old new outcome path bytes = MatchResult outcome (λ done. ReplacesFile old new path bytes) (λ fault. KeepsFiles old new)
