-- What is written for the items of a sequence, one after another.
use Rattle.std.specs.Prelude.{ℕ, ◌≡◌, ◌++◌, Bool, true, List, length, Option}
use Rattle.std.specs.Io.KnownBytes.{Appends}
use Rattle.cbor_head.specs.Prelude.{Spelling, spell}
use Rattle.cborc_files.specs.Folder.{Files}
use Rattle.cborc_words.specs.declared.request.Options.{Options}
use Rattle.cborc_commands.specs.Sequences.{texts_from, AreAll, GoesOn, AreFirst}
use Rattle.cborc_commands.specs.{Input.IsInput, Input.IsPrefix, Fault.at_item, NoInput.IsNoInput, declared.fault.Fault.Fault}

-- the item at the start of these bytes, with this length, is accepted, and its text was written
pub record IsWritten (takes : Spelling → Type 0) (text : Spelling → List ℕ) (bytes : List ℕ) (size : ℕ) (before after : Option (List ℕ)) : Type 0 where
  pub item : Spelling
  pub rest : List ℕ
  pub taken : takes item
  pub bytes_are : spell item ++ rest ≡ bytes
  pub size_is : size ≡ length (spell item)
  pub written : Appends before after (text item)

-- no item is accepted yet, because the input may continue, and nothing was written
abbrev pub IsPutBack : Bool → Option (List ℕ) → Option (List ℕ) → Type 0
IsPutBack goes_on before after = (goes_on ≡ true) × (after ≡ before)

-- the whole input is a sequence of this number of accepted items, and their texts were written
pub record AreWritten (takes : Spelling → Type 0) (text : ℕ → Spelling → List ℕ) (n : ℕ) (input : List ℕ) (before after : Option (List ℕ)) (count : ℕ) : Type 0 where
  pub items : List Spelling
  pub all : AreAll takes n input items
  pub count_is : count ≡ length items
  pub written : Appends before after (texts_from text 0 items)

-- It is not: after accepted items, whose texts were written, none is accepted.
pub record AreStopped (takes : Spelling → Type 0) (text : ℕ → Spelling → List ℕ) (stops : ℕ → List ℕ → Fault → Option (List ℕ) → Option (List ℕ) → Type 0) (n : ℕ)
    (input : List ℕ) (before after : Option (List ℕ)) (fault : Fault) : Type 0 where
  pub items : List Spelling
  pub rest : List ℕ
  pub index : ℕ
  pub start : ℕ
  pub goes_on : GoesOn takes n input items rest index start
  -- the content of the output by then
  pub middle : Option (List ℕ)
  pub written : Appends before middle (texts_from text 0 items)
  -- why
  pub cause : Fault
  pub stopped : stops start rest cause middle after
  pub fault_is : fault ≡ at_item index start cause

-- the input at a path is such a sequence
pub record AreWrittenOf (takes : Spelling → Type 0) (text : ℕ → Spelling → List ℕ) (options : Options) (source : List ℕ) (held : Option Files)
    (before after : Option (List ℕ)) (count : ℕ) : Type 0 where
  pub input : List ℕ
  pub is : IsInput held source options.hex input
  pub written : AreWritten takes text options.limits.bytes input before after count

-- the input cannot be read, or not further than these accepted items, whose texts were written
pub record AreWrittenSoFar (takes : Spelling → Type 0) (text : ℕ → Spelling → List ℕ) (options : Options) (source : List ℕ) (held : Option Files)
    (before after : Option (List ℕ)) : Type 0 where
  pub items : List Spelling
  pub first : AreFirst takes options source held items
  pub written : Appends before after (texts_from text 0 items)

-- it is not
pub data AreStoppedOf (takes : Spelling → Type 0) (text : ℕ → Spelling → List ℕ) (stops : ℕ → List ℕ → Fault → Option (List ℕ) → Option (List ℕ) → Type 0)
    (options : Options) (source : List ℕ) (held : Option Files) (before after : Option (List ℕ)) (fault : Fault) : Type 0 where
  -- there is no input, or no more of it
  no_input : IsNoInput held source options.hex fault → AreWrittenSoFar takes text options source held before after
      → AreStoppedOf takes text stops options source held before after fault
  -- an item of its prefix is not accepted, and then the input is found to be missing
  after_no_input : IsNoInput held source options.hex fault → (prefix : List ℕ) → IsPrefix held source options.hex prefix → (cause : Fault)
      → AreStopped takes text stops options.limits.bytes prefix before after cause → AreStoppedOf takes text stops options source held before after fault
  -- an item is not accepted
  within : (input : List ℕ) → IsInput held source options.hex input → AreStopped takes text stops options.limits.bytes input before after fault
      → AreStoppedOf takes text stops options source held before after fault
