-- What the strict check of a whole input returns.
use Rattle.std.specs.Prelude.{ℕ, ◌≢◌, List, length}
use Rattle.cbor_head.specs.{Prelude.Bounds, Prelude.strict, declared.order.KeyOrder.KeyOrder, declared.reason.Reason.TheVariants.Memory}
use Rattle.cbor_head.specs.declared.reason.Refusal.{Refusal}
use Rattle.theory_verdicts.specs.Readers.{IsRead, IsCanonicalPrefix}
use Rattle.cbor_reader.specs.{Canonicalise.IsCanonicalOf, WholeItem.IsItemRefusal}
use Rattle.naltvigo.specs.Checking.{HasNoWholePrefix}

-- the input is its own result
pub record IsOwnResult (limits : Bounds) (o : KeyOrder) (input : List ℕ) : Type 0 where
  pub own : IsCanonicalOf limits o input input
  pub accepted : IsRead limits (strict o) input (length input)
  pub canonical : IsCanonicalPrefix limits o input (length input)

-- it isn't
pub record IsNotOwn (limits : Bounds) (o : KeyOrder) (input : List ℕ) (f : Refusal) : Type 0 where
  pub refused : IsItemRefusal limits (strict o) input f
  pub not_memory : f.reason ≢ Memory
  pub not_own : ¬ IsCanonicalOf limits o input input
  pub prefix : HasNoWholePrefix limits o input f.place
