-- A file that is read in parts, as bytes or as hex text, and its input.
use Rattle.std.specs.Prelude.{ℕ, ◌+◌, ◌≡◌, ◌<◌, ◌++◌, nat_lt, Bool, true, false, List, [], length, drop, Option, IsErr}
use Rattle.std.specs.List.{filter}
use Rattle.hex.specs.Hex.{decode_of}
use Rattle.cborc_files.specs.Digits.{DigitsView, Spells, SpellsOn, IsWhole}
use Rattle.cborc_files.specs.Folder.{Files, Holds, IsThere, IsMissing, ReadsOn, KeepsFiles}
use Rattle.cborc_files.specs.Hex.{is_kept}
use Rattle.cborc_commands.specs.declared.fault.Fault.TheVariants as faults
use Rattle.cborc_commands.specs.{Input.IsInput, NoInput.IsNoInput, declared.fault.Fault.Fault, declared.source.Source.Source}

-- ---- what was read

-- the file at this path starts with these bytes; if it ended, they are all of it
pub record StartsFile (held : Option Files) (path prefix : List ℕ) (ended : Bool) : Type 0 where
  pub back : List ℕ
  pub holds : Holds held path (prefix ++ back)
  pub end : ended ≡ true → back ≡ []

-- the input bytes of the start of a file: its bytes, or those that it encodes as hex text, where one more digit may follow
abbrev pub Gives : Bool → DigitsView → List ℕ → List ℕ → Type 0
Gives false d prefix bytes = bytes ≡ prefix
Gives true d prefix bytes = Spells prefix bytes d

-- if the file ends there, they are all of its input
abbrev pub IsAll : Bool → DigitsView → Type 0
IsAll false d = Unit {0}
IsAll true d = IsWhole d

-- the part of the file at this path that was read has these input bytes
pub record HasGiven (held : Option Files) (path : List ℕ) (s : Source) (bytes : List ℕ) : Type 0 where
  pub prefix : List ℕ
  pub file : StartsFile held path prefix s.ended
  pub gives : Gives s.hex s.digits prefix bytes
  pub size_is : s.size ≡ length prefix
  pub all : s.ended ≡ true → IsAll s.hex s.digits

-- nothing was read
pub record IsFresh (hex : Bool) (s : Source) : Type 0 where
  pub hex_is : s.hex ≡ hex
  pub none : Spells [] [] s.digits
  pub size_is : s.size ≡ 0
  pub ended_is : s.ended ≡ false

-- ---- the next part

-- the input bytes of a part of a file: its bytes, or those that it encodes after the text before it
abbrev pub Adds : Bool → List ℕ → DigitsView → DigitsView → List ℕ → List ℕ → Type 0
Adds false part old new before after = after ≡ before ++ part
Adds true part old new before after = SpellsOn part old new before after

-- the next part of the file at this path was read, and its input bytes were added; the file ends with it if it is shorter than
-- requested
pub record IsPartAdded (held : Option Files) (path : List ℕ) (old new : Source) (before after : List ℕ) : Type 0 where
  pub most : ℕ
  pub some : 0 < most
  pub part : List ℕ
  pub read : ReadsOn held path old.size most [] part
  pub adds : Adds old.hex part old.digits new.digits before after
  pub hex_is : new.hex ≡ old.hex
  pub size_is : new.size ≡ old.size + length part
  pub ended_is : new.ended ≡ nat_lt (length part) most
  pub all : new.ended ≡ true → IsAll new.hex new.digits

-- these bytes, which may be the last ones, are not hex text
abbrev pub IsUndecoded : List ℕ → Bool → DigitsView → Type 0
IsUndecoded part ended d =
    (text spelled more : List ℕ) → (ended ≡ true → more ≡ []) → Spells text spelled d → IsErr (decode_of (filter is_kept (text ++ (part ++ more))))

-- the file at this path, of which this part was read, is not hex text
pub record IsHexErrorText (held : Option Files) (path : List ℕ) (s : Source) : Type 0 where
  pub hex_is : s.hex ≡ true
  pub whole : List ℕ
  pub holds : Holds held path whole
  pub hex_error : (text spelled : List ℕ) → Spells text spelled s.digits → IsErr (decode_of (filter is_kept (text ++ drop s.size whole)))

-- why there is no next part: no file exists at the path, the file is not hex text, or it exists and memory was refused
abbrev pub IsNoPart : Option Files → List ℕ → Source → Fault → Type 0
IsNoPart held path s (faults.CannotRead named) = (named.now ≡ path) × IsMissing held path
IsNoPart held path s (faults.NotHex named) = (named.now ≡ path) × IsHexErrorText held path s
IsNoPart held path s faults.Memory = IsThere held path
IsNoPart held path s _ = ⊥

-- ---- the input

-- the input at this path starts with these bytes; if the file ended, they are all of it
pub record StartsInputAt (held : Option Files) (path : List ℕ) (hex : Bool) (bytes : List ℕ) (ended : Bool) : Type 0 where
  pub following : List ℕ
  pub is : IsInput held path hex (bytes ++ following)
  pub end : ended ≡ true → following ≡ []

-- there is an input that starts with the bytes that were read of the file at this path
abbrev pub HasInput : Option Files → List ℕ → Source → Type 0
HasInput now path s = (held : Option Files) (bytes : List ℕ) → KeepsFiles held now → HasGiven held path s bytes → StartsInputAt held path s.hex bytes s.ended

-- there is none, for this fault
abbrev pub HasNoInput : Option Files → List ℕ → Source → Fault → Type 0
HasNoInput now path s fault = (held : Option Files) (bytes : List ℕ) → KeepsFiles held now → HasGiven held path s bytes → IsNoInput held path s.hex fault
