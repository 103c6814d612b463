-- Which fault follows from a refusal.
use Rattle.std.proofs.Common.{◌≡◌, refl, sym, subst}
use Rattle.cbor_head.specs.declared.reason.Reason.TheVariants as reasons
use Rattle.cbor_head.specs.declared.reason.{Reason.Reason, Refusal.Refusal}
use Rattle.cbor_listing.specs.Listing.{IsListingReason}
use Rattle.cborc_commands.specs.Fault.{IsOfInput, reason_fault, refusal_fault}
use Rattle.cborc_commands.specs.declared.fault.Fault.TheVariants as faults
use Rattle.cborc_commands.specs.declared.fault.Fault.{Fault}

-- the fault of a refusal: the refusal itself, or out of memory if the reason is not one of the input
pub refusal_is : (P : Fault → Type 0) (f : Refusal) (fault : Fault) → fault ≡ refusal_fault f → (IsOfInput f.reason → P (faults.Refused f)) → (¬ IsOfInput f.reason → P faults.Memory) → P fault
refusal_is P f fault e refused memory = subst P (sym e) (by_reason f.reason refl)
  where
    by_reason : (reason : Reason) → f.reason ≡ reason → P (reason_fault f reason)
    by_reason reasons.Memory is = memory (λ own. subst IsOfInput is own)
    by_reason reasons.Read is = memory (λ own. subst IsOfInput is own)
    by_reason _ is = refused (subst IsOfInput (sym is) tt)

-- the same for a listing, which does not allocate: out of memory is reported if a read failed
pub listing_refusal_is : (P : Fault → Type 0) (f : Refusal) (fault : Fault) → fault ≡ refusal_fault f → IsListingReason f.reason → (IsOfInput f.reason → P (faults.Refused f)) → (f.reason ≡ reasons.Read → P faults.Memory) → P fault
listing_refusal_is P f fault e listed refused memory = subst P (sym e) (by_reason f.reason refl)
  where
    by_reason : (reason : Reason) → f.reason ≡ reason → P (reason_fault f reason)
    by_reason reasons.Memory is = absurd (subst IsListingReason is listed)
    by_reason reasons.Read is = memory is
    by_reason _ is = refused (subst IsOfInput (sym is) tt)
