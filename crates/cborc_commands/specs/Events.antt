-- Why `events` ends without the lines of a whole file.
use Rattle.std.specs.Prelude.{ℕ, ◌≡◌, ◌≢◌, ◌<◌, ◌≤◌, ◌⊎◌, List, length, Option}
use Rattle.std.specs.Io.KnownBytes.{Keeps}
use Rattle.cbor_head.specs.declared.reason.Reason.TheVariants.{Read, Trailing, Write}
use Rattle.cbor_head.specs.{Prelude.Bounds, Prelude.refusal, declared.reason.Refusal.Refusal}
use Rattle.cborc_files.specs.Folder.{Files}
use Rattle.cborc_words.specs.declared.request.{EventStyle.EventStyle, Options.Options}
use Rattle.cborc_commands.specs.declared.fault.Fault.TheVariants as faults
use Rattle.cborc_commands.specs.{EventStyles.AreListed, EventStyles.AreUnlisted, Input.IsInput, Fault.IsOfInput, NoInput.IsNoInput, declared.fault.Fault.Fault}

-- a byte follows the item at the start, whose lines were written
pub record IsFollowed (style : EventStyle) (limits : Bounds) (input : List ℕ) (old new : Option (List ℕ)) (f : Refusal) : Type 0 where
  pub size : ℕ
  pub listed : AreListed style 0 limits input size old new
  pub followed : size < length input
  pub is : f ≡ refusal Trailing size size

-- The form of a whole input is refused, or a byte follows the item, or standard output failed. Out of memory is reported only
-- if a read of the bytes failed. They are a slice, so no read fails: the call that annotates bytes says so, and the one that lists
-- events, which reads from any reader, does not.
abbrev pub IsNotListed : EventStyle → Bounds → List ℕ → Option (List ℕ) → Option (List ℕ) → Fault → Type 0
IsNotListed style limits input old new (faults.Refused f) =
    IsOfInput f.reason × (f.reason ≢ Write) × ((AreUnlisted style 0 limits input f old new × (f.read ≤ length input)) ⊎ IsFollowed style limits input old new f)
IsNotListed style limits input old new faults.CannotPrint = (f : Refusal) × AreUnlisted style 0 limits input f old new × (f.read ≤ length input) × (f.reason ≡ Write)
IsNotListed style limits input old new faults.Memory = (f : Refusal) × AreUnlisted style 0 limits input f old new × (f.read ≤ length input) × (f.reason ≡ Read)
IsNotListed style limits input old new _ = ⊥

-- the input at a path is one well-formed item, and standard output accepted its lines
pub record IsListedOf (style : EventStyle) (options : Options) (source : List ℕ) (held : Option Files) (before after : Option (List ℕ)) : Type 0 where
  pub input : List ℕ
  pub is : IsInput held source options.hex input
  pub listed : AreListed style 0 options.limits input (length input) before after

-- why not all lines are written: the input is not listed whole, or there is none and nothing is written
abbrev pub IsNotListedOf : EventStyle → Options → List ℕ → Option Files → Option (List ℕ) → Option (List ℕ) → Fault → Type 0
IsNotListedOf style options source held before after fault =
    ((input : List ℕ) × IsInput held source options.hex input × IsNotListed style options.limits input before after fault)
    ⊎ (IsNoInput held source options.hex fault × Keeps before after)
