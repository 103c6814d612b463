-- Which fault follows from a refusal, and with which status the program ends.
use Rattle.std.specs.Prelude.{ℕ, Result, Ok, Err}
use Rattle.cbor_head.specs.declared.reason.Reason.TheVariants as reasons
use Rattle.cbor_head.specs.declared.reason.{Reason.Reason, Refusal.Refusal}
use Rattle.cbor_reader.specs.declared.comparison.Side.{Side, TheVariants.Left, TheVariants.Right}
use Rattle.cborc_commands.specs.declared.fault.Fault.TheVariants as faults
use Rattle.cborc_commands.specs.declared.status.Status.TheVariants.{Accepted, Refused, Misused, Failed}
use Rattle.cborc_commands.specs.declared.{fault.Fault.Fault, status.Status.Status}

-- the reason is one of the input: not Memory and not Read
abbrev pub IsOfInput : Reason → Type 0
IsOfInput reasons.Memory = ⊥
IsOfInput reasons.Read = ⊥
IsOfInput _ = Unit {0}

-- the fault of a refusal with this reason; no input is read from a reader that can fail
abbrev pub reason_fault : Refusal → Reason → Fault
reason_fault f reasons.Memory = faults.Memory
reason_fault f reasons.Read = faults.Memory
reason_fault f _ = faults.Refused f

-- the fault of a refusal
abbrev pub refusal_fault : Refusal → Fault
refusal_fault f = reason_fault f f.reason

-- the fault of the item with this number in a sequence, at this offset of the input
abbrev pub at_item : ℕ → ℕ → Fault → Fault
at_item index start (faults.Refused f) = faults.RefusedItem index start f
at_item index start fault = fault

-- the fault of a side's refusal with this reason
abbrev pub side_reason_fault : Side → Refusal → Reason → Fault
side_reason_fault side f reasons.Memory = faults.Memory
side_reason_fault Left f _ = faults.LeftRefused f
side_reason_fault Right f _ = faults.RightRefused f

-- the fault of a side's refusal
abbrev pub side_fault : Side → Refusal → Fault
side_fault side f = side_reason_fault side f f.reason

-- the status of a fault
abbrev pub fault_status : Fault → Status
fault_status (faults.Refused f) = Refused
fault_status (faults.RefusedItem index start f) = Refused
fault_status (faults.LeftRefused f) = Refused
fault_status (faults.RightRefused f) = Refused
fault_status (faults.NotText number) = Misused
fault_status _ = Failed

-- the status of an end, with success or a fault
abbrev pub end_status : Result Status Fault → Status
end_status (Ok status) = status
end_status (Err fault) = fault_status fault

-- the number of a status
abbrev pub status_number : Status → ℕ
status_number Accepted = 0
status_number Refused = 1
status_number Misused = 2
status_number Failed = 3
