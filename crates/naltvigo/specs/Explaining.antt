-- The explanation of a refusal, by the number of its reason.
use Rattle.std.specs.Prelude.{ℕ, ◌≡◌, ◌⊎◌, ◌<◌, List, []}
use Rattle.cbor_head.specs.{Prelude.reason_number, Prelude.refusal, declared.reason.Reason.Reason}
use Rattle.cbor_diag.specs.Explanation.{IsExplanation}

-- The text for the reason of a number, at an offset of an input that was refused within a depth limit; none for a number that is no reason's.
pub data IsExplanationOf (depth : ℕ) (input : List ℕ) (number offset : ℕ) (text : List ℕ) : Type 0 where
  of : (r : Reason) → number ≡ reason_number r → IsExplanation depth input (refusal r offset offset) text → IsExplanationOf depth input number offset text
  none : (number ≡ 0) ⊎ (20 < number) → text ≡ [] → IsExplanationOf depth input number offset text
