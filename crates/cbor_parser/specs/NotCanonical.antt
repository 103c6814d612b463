-- Why a slice does not begin with a canonical item.
use Rattle.std.specs.Prelude.{ℕ, List}
use Rattle.cbor_head.specs.Prelude.{plain, strict, Bounds, IsVerdict, refusal, refused}
use Rattle.cbor_head.specs.declared.order.KeyOrder as orders
use Rattle.cbor_head.specs.declared.reason.{Reason.Reason, Reason.TheVariants.KeyOrder, Reason.TheVariants.RepeatedKey, Refusal.Refusal}
use Rattle.theory_values.specs.StrictReasons.{IsStrictReason}

-- for keys that do not rise the strict rules have one reason, whether the keys are the same or not
abbrev pub strict_reason : Reason → Reason
strict_reason RepeatedKey = KeyOrder
strict_reason r = r

abbrev pub strict_refusal : Refusal → Refusal
strict_refusal f = refusal (strict_reason f.reason) f.place f.read

-- The verdict of the strict rules, except that a key that is the same as the one before it is reported as repeated; for a reason
-- that is not one of the deterministic encoding alone, it is the verdict of the plain rules too.
pub record IsNotCanonical (limits : Bounds) (o : orders.KeyOrder) (input : List ℕ) (f : Refusal) : Type 0 where
  pub strictly : IsVerdict limits (strict o) input (refused (strict_refusal f))
  pub plainly : ¬ IsStrictReason f.reason → IsVerdict limits plain input (refused f)
