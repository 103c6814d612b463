-- The pairs of a map in its canonical bytes, and one of them by the bytes of its key.
use Rattle.std.specs.Prelude.{ℕ, ◌≡◌, List, ◌∷◌, ◌++◌, flat_map}
use Rattle.cbor_head.specs.Prelude.{Value, Entries, HasEntry, Pair, in_order, map, IsInRange, IsValid, canonical, canonical_entries}
use Rattle.cbor_head.specs.{Value.entries_count, declared.order.KeyOrder.KeyOrder}
use Rattle.theory_values.specs.Pairs.{pair_bytes}
use Rattle.cbor_cursor.specs.Items.{BeginsWith, content_of}

-- the bytes begin with the pairs of this map, a valid one, that many of them, and the rest follows
pub record ArePairsOf (o : KeyOrder) (es : Entries) (count : ℕ) (bytes rest : List ℕ) : Type 0 where
  pub range : IsInRange (map es)
  pub valid : IsValid (map es)
  pub count_is : count ≡ entries_count es
  pub bytes_are : bytes ≡ content_of o (map es) ++ rest

-- the bytes begin with the value of the pair whose key has these bytes; the later pairs and the rest follow
pub record BeginsWithValueAt (o : KeyOrder) (es : Entries) (key bytes rest : List ℕ) : Type 0 where
  pub stored : Value
  pub value : Value
  pub has : HasEntry es stored value
  pub key_is : canonical o stored ≡ key
  pub before : List Pair
  pub after : List Pair
  pub pairs_are : in_order o (canonical_entries o es) ≡ before ++ (record { key = canonical o stored; value = canonical o value }) ∷ after
  pub begins : BeginsWith o bytes value (flat_map pair_bytes after ++ rest)
