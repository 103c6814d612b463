-- What holds of the bytes of a cursor, and of several items.
use Rattle.std.specs.Prelude.{ℕ, ◌≡◌, ◌++◌, List, flat_map}
use Rattle.cbor_head.specs.Value as value
use Rattle.cbor_head.specs.Prelude.{values_count, Pair, IsInRange, AreInRange, AreEntriesInRange, IsValid, AreValid, AreEntriesValid, canonical, canonical_all, canonical_entries}
use Rattle.cbor_head.specs.declared.order.KeyOrder.{KeyOrder}
use Rattle.cbor_cursor.specs.Decoded.{Encoded, value_in, EncodedItems, members_in, pairs_in}

-- the bytes are the canonical bytes of their value, a valid one
pub record IsCanonical (e : Encoded) : Type 0 where
  pub range : IsInRange (value_in e)
  pub valid : IsValid (value_in e)
  pub bytes_are : e.bytes ≡ canonical e.order (value_in e)

abbrev pub encoded_items : KeyOrder → List ℕ → ℕ → EncodedItems
encoded_items o bs n = record { order = o; bytes = bs; count = n }

-- the bytes are the canonical bytes of these values, valid ones
pub record AreCanonical (m : EncodedItems) : Type 0 where
  pub range : AreInRange (members_in m)
  pub valid : AreValid (members_in m)
  pub count_is : values_count (members_in m) ≡ m.count
  pub bytes_are : m.bytes ≡ canonical_all m.order (members_in m)

-- the bytes are the canonical bytes of these keys and values, valid ones, each value after its key
pub record AreCanonicalPairs (m : EncodedItems) : Type 0 where
  pub range : AreEntriesInRange (pairs_in m)
  pub valid : AreEntriesValid (pairs_in m)
  pub count_is : value.entries_count (pairs_in m) ≡ m.count
  pub bytes_are : m.bytes ≡ flat_map (λ (p : Pair). p.key ++ p.value) (canonical_entries m.order (pairs_in m))
