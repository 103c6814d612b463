-- Inputs that are sequences of items (RFC 8742), by what each item must satisfy.
use Rattle.std.specs.Prelude.{ℕ, ◌+◌, ◌≡◌, ◌<◌, ◌⊎◌, ◌++◌, List, [], ◌∷◌, length, take, flat_map, Option}
use Rattle.std.specs.{Io.KnownBytes.Appends, List.AllByRecursion}
use Rattle.cbor_head.specs.Prelude.{Spelling, spell}
use Rattle.cbor_reader.specs.Sequence.{sequence_bytes, EndsBefore}
use Rattle.cborc_files.specs.Folder.{Files}
use Rattle.cborc_words.specs.declared.request.Options.{Options}
use Rattle.cborc_commands.specs.Input.{IsInput, IsPrefix}

-- what is written for these items, one after another, if the first is at this offset; the text of each may depend on its offset
abbrev pub texts_from : (ℕ → Spelling → List ℕ) → ℕ → List Spelling → List ℕ
texts_from text start [] = []
texts_from text start (item ∷ items) = text start item ++ texts_from text (start + length (spell item)) items

-- the input starts with these items, which all satisfy P, and rest follows
pub record StartsWithEach (P : Spelling → Type 0) (input : List ℕ) (items : List Spelling) (rest : List ℕ) : Type 0 where
  pub each : AllByRecursion P items
  pub bytes : sequence_bytes items ++ rest ≡ input

-- the whole input is these items, and the limit of n bytes is not 0
pub record AreAll (P : Spelling → Type 0) (n : ℕ) (input : List ℕ) (items : List Spelling) : Type 0 where
  pub starts : StartsWithEach P input items []
  pub some : 0 < n

-- After these items the input continues with rest, which must start with an item. This item has this index, counted from
-- 1, and this offset.
pub record GoesOn (P : Spelling → Type 0) (n : ℕ) (input : List ℕ) (items : List Spelling) (rest : List ℕ) (index start : ℕ) : Type 0 where
  pub starts : StartsWithEach P input items rest
  pub index_is : index ≡ length items + 1
  pub start_is : start ≡ length (sequence_bytes items)
  pub begun : ¬ EndsBefore n rest

-- the input at a path was read as far as these items, which all satisfy P; without an input there are none
abbrev pub AreFirst : (Spelling → Type 0) → Options → List ℕ → Option Files → List Spelling → Type 0
AreFirst P options source held items =
    (items ≡ []) ⊎ ((prefix : List ℕ) × (rest : List ℕ) × IsPrefix held source options.hex prefix × StartsWithEach P prefix items rest)

-- these bytes start with items that satisfy P; the output accepted the texts of all but the last one, and a part of the
-- last text
pub record IsCutIn (P : Spelling → Type 0) (text : Spelling → List ℕ) (bytes : List ℕ) (before after : Option (List ℕ)) : Type 0 where
  pub items : List Spelling
  pub last : Spelling
  pub rest : List ℕ
  pub starts : StartsWithEach P bytes (items ++ last ∷ []) rest
  pub count : ℕ
  pub part : count < length (text last)
  pub taken : Appends before after (flat_map text items ++ take count (text last))

-- the input at a path starts so
abbrev pub IsCutShort : (Spelling → Type 0) → (Spelling → List ℕ) → Options → List ℕ → Option Files → Option (List ℕ) → Option (List ℕ) → Type 0
IsCutShort P text options source held before after = (input : List ℕ) × IsInput held source options.hex input × IsCutIn P text input before after

-- what the output accepted if the input at a path cannot be read, or not to its end
pub data IsTakenSoFar (P : Spelling → Type 0) (text : Spelling → List ℕ) (options : Options) (source : List ℕ) (held : Option Files) (before after : Option (List ℕ)) : Type 0 where
  -- the texts of its items before that
  of_items : (items : List Spelling) → AreFirst P options source held items → Appends before after (flat_map text items) → IsTakenSoFar P text options source held before after
  -- a part of the last text: the output failed before a fault of the hex text was found
  of_cut : (prefix : List ℕ) → IsPrefix held source options.hex prefix → IsCutIn P text prefix before after → IsTakenSoFar P text options source held before after
