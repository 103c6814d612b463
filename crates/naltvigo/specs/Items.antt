-- Items of canonical bytes as C has them.
use Rattle.std.specs.Prelude.{ℕ, ◌≡◌, List}
use Rattle.cbor_head.specs.Prelude.{Bounds, Spelling, canonical, value_of}
use Rattle.cbor_head.specs.declared.order.KeyOrder.{KeyOrder}
use Rattle.cbor_reader.specs.Headline.{IsValidItem}
use Rattle.cbor_cursor.specs.{Index.table, declared.placed.PlacedItem.PlacedItem}

-- the input is one valid item in its canonical bytes, and these are the entries of it and of all items within it
pub record IsTableOf (limits : Bounds) (o : KeyOrder) (input : List ℕ) (entries : List PlacedItem) : Type 0 where
  pub item : Spelling
  pub valid : IsValidItem limits input item
  pub canonical_bytes : input ≡ canonical o (value_of item)
  pub entries_are : entries ≡ table 0 item
