-- The item at the start of an input, and its canonical bytes.
use Rattle.std.specs.Prelude.{◌≡◌, ℕ, List}
use Rattle.cbor_head.specs.Prelude.{canonical, plain, Bounds, value_of}
use Rattle.cbor_head.specs.declared.order.KeyOrder.{KeyOrder}
use Rattle.theory_verdicts.specs.Readers.{IsRead}

-- the input begins with an item of this number of bytes that the plain rules accept, and out is the
-- canonical bytes of its value
pub record IsBuiltPrefix (limits : Bounds) (o : KeyOrder) (input out : List ℕ) (size : ℕ) : Type 0 where
  pub read : IsRead limits plain input size
  pub canonical_is : out ≡ canonical o (value_of read.item)
