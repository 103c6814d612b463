-- Why bytes are not one whole item.
use Rattle.std.specs.Prelude.{ℕ, ◌≡◌, ◌<◌, List, length}
use Rattle.cbor_head.specs.{Prelude.Bounds, Prelude.refusal, declared.order.KeyOrder.KeyOrder, declared.reason.Refusal.Refusal}
use Rattle.cbor_head.specs.declared.reason.Reason.TheVariants.{Trailing}
use Rattle.theory_verdicts.specs.Readers.{IsCanonicalPrefix}

-- they begin with an item in its canonical bytes, and a byte follows it
pub record IsTrailing (limits : Bounds) (o : KeyOrder) (bytes : List ℕ) (f : Refusal) : Type 0 where
  pub count : ℕ
  pub item : IsCanonicalPrefix limits o bytes count
  pub more : count < length bytes
  pub refusal_is : f ≡ refusal Trailing count count
