-- What filling a table returns.
use Rattle.std.specs.Prelude.{ℕ, ◌≡◌, ◌<◌, ◌≤◌, ◌^◌, List, length, take, drop}
use Rattle.cbor_head.specs.{Prelude.Bounds, declared.order.KeyOrder.KeyOrder}
use Rattle.cbor_reader.specs.Canonicalise.{IsCanonicalOf}
use Rattle.cbor_cursor.specs.declared.placed.PlacedItem.{PlacedItem}
use Rattle.naltvigo.specs.Items.{IsTableOf}

-- the input is its own result, its table has this number of entries, and is written if they fit
pub record IsIndexed (limits : Bounds) (o : KeyOrder) (input : List ℕ) (old new : List PlacedItem) (count : ℕ) : Type 0 where
  pub own : IsCanonicalOf limits o input input
  pub entries : List PlacedItem
  pub table : IsTableOf limits o input entries
  pub count_is : count ≡ length entries
  pub filled : count ≤ length old → count < 2 ^ 32 → take count new ≡ entries
  pub kept : drop count new ≡ drop count old
