-- What `compare` reports of two inputs.
use Rattle.std.specs.Prelude.{ℕ, ◌≡◌, ◌⊎◌, List, Option, codes}
use Rattle.std.specs.Io.KnownBytes.{Appends}
use Rattle.cbor_head.specs.declared.reason.Reason.TheVariants as reasons
use Rattle.cbor_head.specs.{Prelude.Bounds, declared.reason.Refusal.Refusal}
use Rattle.cbor_reader.specs.{Comparing.MeanTheSame, Comparing.IsSideRefusal, WholeItem.IsWholeItem, declared.comparison.Side.Side}
use Rattle.cbor_reader.specs.declared.comparison.Side.TheVariants.{Left, Right}
use Rattle.cborc_files.specs.Folder.{Files}
use Rattle.cborc_words.specs.declared.request.Options.{Options}
use Rattle.cborc_commands.specs.declared.fault.Fault.TheVariants as faults
use Rattle.cborc_commands.specs.{Input.IsInput, Fault.IsOfInput, NoInput.IsNoInput, Texts.GoesInPart, declared.fault.Fault.Fault, declared.status.Status.Status}
use Rattle.cborc_commands.specs.declared.status.Status.TheVariants.{Accepted, Refused}

-- both are whole valid items within the limits
abbrev pub AreAccepted : Bounds → List ℕ → List ℕ → Type 0
AreAccepted limits left right = IsWholeItem limits left × IsWholeItem limits right

-- they are, and the status and the line, for which this holds, say whether they have the same value
abbrev pub IsReported : Bounds → List ℕ → List ℕ → (List ℕ → Type 0) → Status → Type 0
IsReported limits left right Reported Accepted = AreAccepted limits left right × MeanTheSame limits left right × Reported (codes "same\n")
IsReported limits left right Reported Refused = AreAccepted limits left right × ¬ MeanTheSame limits left right × Reported (codes "different\n")
IsReported limits left right Reported _ = ⊥

-- why nothing is reported: a side is refused, or standard output accepted only a part of the line
abbrev pub IsUnreported : Bounds → List ℕ → List ℕ → Option (List ℕ) → Option (List ℕ) → Fault → Type 0
IsUnreported limits left right old new (faults.LeftRefused f) = IsSideRefusal limits left right Left f × IsOfInput f.reason
IsUnreported limits left right old new (faults.RightRefused f) = IsSideRefusal limits left right Right f × IsOfInput f.reason
IsUnreported limits left right old new faults.Memory = (side : Side) × (f : Refusal) × IsSideRefusal limits left right side f × (f.reason ≡ reasons.Memory)
IsUnreported limits left right old new faults.CannotPrint = (status : Status) × IsReported limits left right (GoesInPart old new) status
IsUnreported limits left right old new _ = ⊥

-- the inputs at two paths
pub record AreInputs (held : Option Files) (left right : List ℕ) (options : Options) (first second : List ℕ) : Type 0 where
  pub left_is : IsInput held left options.hex first
  pub right_is : IsInput held right options.hex second

-- both are accepted, and the status and the line say whether they have the same value
pub record AreCompared (options : Options) (left right : List ℕ) (held : Option Files) (before after : Option (List ℕ)) (status : Status) : Type 0 where
  pub first : List ℕ
  pub second : List ℕ
  pub are : AreInputs held left right options first second
  pub reported : IsReported options.limits first second (Appends before after) status

-- they are not, for this fault
pub record AreUnreported (options : Options) (left right : List ℕ) (held : Option Files) (before after : Option (List ℕ)) (fault : Fault) : Type 0 where
  pub first : List ℕ
  pub second : List ℕ
  pub are : AreInputs held left right options first second
  pub unreported : IsUnreported options.limits first second before after fault

-- Why nothing is reported: both inputs exist, and one is refused or the line was not written; or the left input is missing;
-- or the left one exists and the right one is missing.
abbrev pub AreNotCompared : Options → List ℕ → List ℕ → Option Files → Option (List ℕ) → Option (List ℕ) → Fault → Type 0
AreNotCompared options left right held before after fault =
    AreUnreported options left right held before after fault ⊎ IsNoInput held left options.hex fault
    ⊎ ((first : List ℕ) × IsInput held left options.hex first × IsNoInput held right options.hex fault)
