-- The fault of a side's refusal says which side and why.
use Rattle.std.proofs.Common.{ℕ, ◌≡◌, ◌∙◌, List, Option, ap, refl, sym, subst}
use Rattle.cbor_head.specs.declared.reason.Reason.TheVariants as reasons
use Rattle.cbor_head.specs.{Prelude.plain, Prelude.Bounds, declared.reason.Reason.Reason, declared.reason.Refusal.Refusal}
use Rattle.cbor_reader.specs.WholeItem.{IsItemRefusal, unread, trailing}
use Rattle.cbor_reader.specs.{Comparing.IsSideRefusal, declared.comparison.Side.Side}
use Rattle.cbor_reader.specs.declared.comparison.Side.TheVariants.{Left, Right}
use Rattle.cborc_commands.specs.Fault.{IsOfInput, side_reason_fault, side_fault}
use Rattle.cborc_commands.specs.{declared.fault.Fault.Fault, Compare.IsUnreported}

module _ (limits : Bounds) (left right : List ℕ) (before after : Option (List ℕ)) where
  -- no read of a slice fails
  never_read : (input : List ℕ) (f : Refusal) → IsItemRefusal limits plain input f → f.reason ≡ reasons.Read → ⊥
  never_read input f (unread u apart) e = apart e
  never_read input f (trailing k h l is) e = let t : reasons.Trailing ≡ reasons.Read = sym (ap (λ (x : Refusal). x.reason) is) ∙ e in cc t

  for_reason : (side : Side) (f : Refusal) (reason : Reason) → f.reason ≡ reason → IsSideRefusal limits left right side f
      → IsUnreported limits left right before after (side_reason_fault side f reason)
  for_reason side f reasons.Memory e h = (side, f, h, e)
  for_reason Left f reasons.Read e h = absurd (never_read left f h e)
  for_reason Right f reasons.Read e (w, h) = absurd (never_read right f h e)
  for_reason Left f _ e h = (h, subst IsOfInput (sym e) tt)
  for_reason Right f _ e h = (h, subst IsOfInput (sym e) tt)

  pub side_unreported : (side : Side) (f : Refusal) (fault : Fault) → IsSideRefusal limits left right side f → fault ≡ side_fault side f
      → IsUnreported limits left right before after fault
  side_unreported side f fault h e = subst (IsUnreported limits left right before after) (sym e) (for_reason side f f.reason refl h)
