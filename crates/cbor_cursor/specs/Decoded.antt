-- The values that bytes encode, and what contracts see of a cursor.
use Rattle.std.specs.Prelude.{ℕ, List, length, Option, Some, None}
use Rattle.cbor_head.specs.Value as value
use Rattle.cbor_head.specs.Prelude.{Value, Values, Entries, no_values, values_count, map, value_of, values_of, entries_of}
use Rattle.cbor_head.specs.Read.{either, read, read_many, read_pairs}
use Rattle.cbor_head.specs.declared.order.KeyOrder.{KeyOrder}

-- the value that the bytes encode; some value if they encode none
abbrev pub decoded : List ℕ → Value
decoded bs = either (value.simple 0) (λ r. value_of r.0) (read (length bs) bs)

-- ---- one item

-- the bytes of an item, and the order of the keys in its maps
pub record Encoded : Type 0 where
  pub order : KeyOrder
  pub bytes : List ℕ

abbrev pub encoded : KeyOrder → List ℕ → Encoded
encoded o bs = record { order = o; bytes = bs }

-- its value
abbrev pub value_in : Encoded → Value
value_in e = decoded e.bytes

-- ---- several items, one after another

-- their bytes, how many there are, and the order of the keys in their maps
pub record EncodedItems : Type 0 where
  pub order : KeyOrder
  pub bytes : List ℕ
  pub count : ℕ

-- the values of that many items
abbrev pub members_in : EncodedItems → Values
members_in m = either no_values (λ r. values_of r.0) (read_many (read (length m.bytes)) m.count m.bytes)

-- the keys and values of that many pairs
abbrev pub pairs_in : EncodedItems → Entries
pairs_in m = either value.no_entries (λ r. entries_of r.0) (read_pairs (read (length m.bytes)) m.count m.bytes)

-- how many members an array has, or how many pairs a map has
abbrev pub count_of : Value → Option ℕ
count_of (value.array vs) = Some (values_count vs)
count_of (map es) = Some (value.entries_count es)
count_of _ = None
