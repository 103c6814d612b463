-- Why the item at a prefix is not listed.
use Rattle.std.specs.Prelude.{ℕ, ◌≡◌, ◌≢◌, ◌≤◌, List, length, Option}
use Rattle.cbor_head.specs.{Prelude.Bounds, declared.reason.Reason.TheVariants.Read, declared.reason.Reason.TheVariants.Write, declared.reason.Refusal.Refusal}
use Rattle.cborc_words.specs.declared.request.EventStyle.{EventStyle}
use Rattle.cborc_commands.specs.declared.fault.Fault.TheVariants as faults
use Rattle.cborc_commands.specs.{EventStyles.AreUnlisted, Fault.IsOfInput, declared.fault.Fault.Fault}

-- The form of the item at the start of these bytes, which are at this offset of the input, is refused; or standard output
-- accepted only a part of its lines. A failed read would be reported as out of memory.
abbrev pub IsPrefixNotListed : EventStyle → ℕ → Bounds → List ℕ → Option (List ℕ) → Option (List ℕ) → Fault → Type 0
IsPrefixNotListed style start limits bytes old new (faults.Refused f) =
    IsOfInput f.reason × (f.reason ≢ Write) × AreUnlisted style start limits bytes f old new × (f.read ≤ length bytes)
IsPrefixNotListed style start limits bytes old new faults.CannotPrint =
    (f : Refusal) × AreUnlisted style start limits bytes f old new × (f.read ≤ length bytes) × (f.reason ≡ Write)
IsPrefixNotListed style start limits bytes old new faults.Memory = (f : Refusal) × AreUnlisted style start limits bytes f old new × (f.read ≤ length bytes) × (f.reason ≡ Read)
IsPrefixNotListed style start limits bytes old new _ = ⊥
