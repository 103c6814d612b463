-- The text for the number of a reason.
use Rattle.std.proofs.Common.{ℕ, ◌≡◌, List, subst, sym}
use Rattle.cbor_head.specs.Prelude.{Bounds, bounds, reason_number, refusal}
use Rattle.cbor_head.specs.declared.reason.{Reason.Reason, Refusal.Refusal}
use Rattle.cbor_diag.specs.Explanation.{IsExplanation}
use Rattle.naltvigo.specs.Explaining.{IsExplanationOf, of}

pub explained : (depth bytes number offset : ℕ) (input text shown : List ℕ) (limits : Bounds) (r : Reason) (f : Refusal) → limits ≡ bounds depth bytes → f ≡ refusal r offset offset
    → shown ≡ text → number ≡ reason_number r → IsExplanation limits.depth input f text → IsExplanationOf depth input number offset shown
explained depth bytes number offset input text shown limits r f limits_are f_is same is e =
    let in_limits = subst (λ (l : Bounds). IsExplanation l.depth input f text) limits_are e in
    let of_reason = subst (λ (g : Refusal). IsExplanation depth input g text) f_is in_limits in
    of r is (subst (λ t. IsExplanation depth input (refusal r offset offset) t) (sym same) of_reason)
