-- What `check --seq` requires of a file's bytes (RFC 8742).
use Rattle.std.specs.Prelude.{ℕ, ◌≡◌, ◌++◌, List, length, Option, codes, decimal}
use Rattle.cbor_head.specs.Prelude.{Rules, Bounds, Spelling, refused, IsVerdict}
use Rattle.cbor_head.specs.declared.reason.Refusal.{Refusal}
use Rattle.cbor_reader.specs.Sequence.{IsAccepted}
use Rattle.cborc_files.specs.Folder.{Files}
use Rattle.cborc_words.specs.declared.request.Options.{Options}
use Rattle.cborc_commands.specs.declared.fault.Fault.TheVariants as faults
use Rattle.cborc_commands.specs.{Input.IsInput, NoInput.IsNoInput, Texts.GoesInPart, Sequences.AreAll, Sequences.GoesOn, declared.fault.Fault.Fault}

-- the whole input is a sequence of this number of items, which the rules accept within the limits
pub record IsWholeSequence (limits : Bounds) (rules : Rules) (input : List ℕ) (count : ℕ) : Type 0 where
  pub items : List Spelling
  pub all : AreAll (IsAccepted limits rules) limits.bytes input items
  pub count_is : count ≡ length items

-- it is not: after accepted items comes a refused one, with this index and this offset
pub record IsRefusedAt (limits : Bounds) (rules : Rules) (input : List ℕ) (index start : ℕ) (f : Refusal) : Type 0 where
  pub items : List Spelling
  pub rest : List ℕ
  pub goes_on : GoesOn (IsAccepted limits rules) limits.bytes input items rest index start
  pub verdict : IsVerdict limits rules rest (refused f)

-- the line of an accepted sequence, with its number of items
abbrev pub accepted_items : ℕ → List ℕ
accepted_items count = codes "accepted " ++ decimal count ++ codes " items\n"

-- the input at a path is a sequence of accepted items, and this holds for its line
pub record IsSequenceChecked (rules : Rules) (options : Options) (source : List ℕ) (held : Option Files) (Reported : List ℕ → Type 0) : Type 0 where
  pub input : List ℕ
  pub is : IsInput held source options.hex input
  pub count : ℕ
  pub whole : IsWholeSequence options.limits rules input count
  pub reported : Reported (accepted_items count)

-- why its line is not written whole: an item is refused, there is no input, or standard output accepted only a part of the line
abbrev pub IsSequenceNotChecked : Rules → Options → List ℕ → Option Files → Option (List ℕ) → Option (List ℕ) → Fault → Type 0
IsSequenceNotChecked rules options source held before after (faults.RefusedItem index start f) =
    (input : List ℕ) × IsInput held source options.hex input × IsRefusedAt options.limits rules input index start f
IsSequenceNotChecked rules options source held before after faults.CannotPrint = IsSequenceChecked rules options source held (GoesInPart before after)
IsSequenceNotChecked rules options source held before after fault = IsNoInput held source options.hex fault
