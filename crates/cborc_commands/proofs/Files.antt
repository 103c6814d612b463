-- What stays known about files from call to call.
use Rattle.std.proofs.Common.{List, [], ℕ, ◌%◌, ◌≡◌, Bool, true, false, Option, Some, None, Result, Ok, Err, ◌∙◌, ap, refl, arith, length, subst, sym, ◌==◌, if◌then◌else◌, IfSome, take_all}
use Rattle.std.specs.{List.filter, Io.KnownBytes.Appends}
use Rattle.hex.specs.{Hex.decode_pairs, declared.error.FromHexError.FromHexError, declared.error.FromHexError.TheVariants.OddLength}
use Rattle.cborc_files.specs.Folder.{Files, Holds, IsBlank, IsThere, IsMissing, KeepsFiles, ReplacesFile}
use Rattle.cborc_files.specs.Hex.{is_kept}
use Rattle.cborc_commands.specs.Input.{IsInput, IsPrefix, IsNotHex}

pub same_files : (held : Option Files) → KeepsFiles held held
same_files None = tt
same_files (Some files) = λ path. refl

pub keeps_keeps : (a b c : Option Files) → KeepsFiles a b → KeepsFiles b c → KeepsFiles a c
keeps_keeps None b c h k = tt
keeps_keeps (Some f) None c h k = absurd h
keeps_keeps (Some f) (Some g) None h k = absurd k
keeps_keeps (Some f) (Some g) (Some e) h k = λ path. k path ∙ h path

pub replaces_kept : (a b c : Option Files) (path bytes : List ℕ) → KeepsFiles a b → ReplacesFile b c path bytes → ReplacesFile a c path bytes
replaces_kept None b c path bytes h r = tt
replaces_kept (Some f) None c path bytes h r = absurd h
replaces_kept (Some f) (Some g) None path bytes h r = absurd r
replaces_kept (Some f) (Some g) (Some e) path bytes h r = (r.0, λ other apart. r.1 other apart ∙ h other)

-- a file that was begun empty has the text that was written, and so does the file that it replaces
taken : (known : Option (List ℕ)) (text : List ℕ) (P : List ℕ → Type 0) → Appends (Some []) known text → IfSome known P → P text
taken None text P a p = absurd a
taken (Some bytes) text P a p = subst P a p

pub replaced_by : (a b c : Option Files) (blank known : Option (List ℕ)) (path text : List ℕ) → IsBlank a blank → KeepsFiles a b → Appends blank known text
    → IfSome known (ReplacesFile b c path) → ReplacesFile a c path text
replaced_by None b c blank known path text e k w r = tt
replaced_by (Some f) b c blank known path text e k w r =
    replaces_kept (Some f) b c path text k (taken known text (ReplacesFile b c path) (subst (λ (x : Option (List ℕ)). Appends x known text) e w) r)

-- what holds in a later state of the same files holds in an earlier one
pub held_before : (a b : Option Files) (path bytes : List ℕ) → KeepsFiles a b → Holds b path bytes → Holds a path bytes
held_before None b path bytes k h = tt
held_before (Some f) None path bytes k h = absurd k
held_before (Some f) (Some g) path bytes k h = sym (k path) ∙ h

-- a file that holds something exists
pub holds_there : (held : Option Files) (path bytes : List ℕ) → Holds held path bytes → IsThere held path
holds_there None path bytes h = tt
holds_there (Some files) path bytes h = λ none. let two : Some bytes ≡ None = sym h ∙ none in cc two

pub there_before : (a b : Option Files) (path : List ℕ) → KeepsFiles a b → IsThere b path → IsThere a path
there_before None b path k h = tt
there_before (Some f) None path k h = absurd k
there_before (Some f) (Some g) path k h = λ none. h (k path ∙ none)

pub missing_before : (a b : Option Files) (path : List ℕ) → KeepsFiles a b → IsMissing b path → IsMissing a path
missing_before None b path k h = tt
missing_before (Some f) None path k h = absurd k
missing_before (Some f) (Some g) path k h = sym (k path) ∙ h

pub input_is_there : (held : Option Files) (path : List ℕ) (hex : Bool) (input : List ℕ) → IsInput held path hex input → IsThere held path
input_is_there held path false input h = holds_there held path input h
input_is_there held path true input (text, h, e) = holds_there held path text h

pub input_before : (a b : Option Files) (path : List ℕ) (hex : Bool) (input : List ℕ) → KeepsFiles a b → IsInput b path hex input → IsInput a path hex input
input_before a b path false input k h = held_before a b path input k h
input_before a b path true input k (text, h, e) = (text, held_before a b path text k h, e)

pub prefix_before : (a b : Option Files) (path : List ℕ) (hex : Bool) (prefix : List ℕ) → KeepsFiles a b → IsPrefix b path hex prefix → IsPrefix a path hex prefix
prefix_before a b path false prefix k (whole, count, h, e) = (whole, count, held_before a b path whole k h, e)
prefix_before a b path true prefix k (text, count, h, e) = (text, count, held_before a b path text k h, e)

-- all of an input is a prefix of it
of_pairs : (b : Bool) (r : Result (List ℕ) FromHexError) (bytes : List ℕ) → (if b then Err OddLength else r) ≡ Ok bytes → r ≡ Ok bytes
of_pairs true r bytes e = cc e
of_pairs false r bytes e = e

pub input_prefix : (held : Option Files) (path : List ℕ) (hex : Bool) (input : List ℕ) → IsInput held path hex input → IsPrefix held path hex input
input_prefix held path false input h = (input, length input, h, sym (take_all (length input) input (omega arith)))
input_prefix held path true input (text, h, e) =
    let digits = filter is_kept text in (
      text,
      length digits,
      h,
      ap (decode_pairs 0) (take_all (length digits) digits (omega arith)) ∙ of_pairs (length digits % 2 == 1) (decode_pairs 0 digits) input e,
    )

pub not_hex_before : (a b : Option Files) (path : List ℕ) (hex : Bool) → KeepsFiles a b → IsNotHex b path hex → IsNotHex a path hex
not_hex_before a b path true k (text, h, e) = (text, held_before a b path text k h, e)
not_hex_before a b path false k h = h
