-- Items by their offsets.
use Rattle.std.specs.Prelude.{ℕ, ◌≡◌, ◌+◌, ◌<◌, ◌≤◌, List, ◌∷◌, ◌++◌, length, drop, flat_map}
use Rattle.cbor_head.specs.Prelude.{Value, Entries, HasEntry, Pair, in_order, canonical, canonical_entries}
use Rattle.cbor_head.specs.declared.order.KeyOrder.{KeyOrder}
use Rattle.theory_values.specs.Pairs.{pair_bytes}
use Rattle.cbor_cursor.specs.declared.lookup.Lookup.TheVariants.{Found, NotThere, NotMap}
use Rattle.cbor_cursor.specs.declared.{lookup.Lookup.Lookup, items.ItemAt.ItemAt, placed.PlacedItem.PlacedItem}
use Rattle.cbor_cursor.specs.{Items.BeginsWith, Items.IsHeadOf, WellFormed.BeginsWithHead, WellFormed.BeginsWithItem}

-- an item outside a table, by its offsets
abbrev pub offsets_of : PlacedItem → ItemAt
offsets_of x = record { kind = x.kind; argument = x.number; offset = x.offset; content = x.content; end = x.end }

-- the canonical bytes of the value are at that offset, and the rest follows them
pub record IsItemAt (o : KeyOrder) (bytes : List ℕ) (v : Value) (rest : List ℕ) (i : ItemAt) : Type 0 where
  pub starts : BeginsWith o (drop i.offset bytes) v rest
  pub head : IsHeadOf o bytes v rest i.kind i.argument i.content
  pub ends : drop i.end bytes ≡ rest

-- a pair of the map has a key of these bytes, and this is the value of this very pair: the pairs begin at start, the earlier
-- pairs and the key come before the value, and the later pairs and the rest follow it
pub record IsValueAt (o : KeyOrder) (es : Entries) (start : ℕ) (key bytes rest : List ℕ) (i : ItemAt) : Type 0 where
  pub stored : Value
  pub value : Value
  pub has : HasEntry es stored value
  pub key_is : canonical o stored ≡ key
  pub before : List Pair
  pub after : List Pair
  pub pairs_are : in_order o (canonical_entries o es) ≡ before ++ (record { key = canonical o stored; value = canonical o value }) ∷ after
  pub offset_is : i.offset ≡ start + length (flat_map pair_bytes before) + length key
  pub item : IsItemAt o bytes value (flat_map pair_bytes after ++ rest) i

-- no pair of the map has a key of these bytes
abbrev pub HasNoKeyBytes : KeyOrder → Entries → List ℕ → Type 0
HasNoKeyBytes o es key = (l v : Value) → HasEntry es l v → canonical o l ≡ key → ⊥

-- the offsets are in order, and not past the end of the bytes
pub record IsWithin (bytes : List ℕ) (i : ItemAt) : Type 0 where
  pub starts : i.offset < i.content
  pub content : i.content ≤ i.end
  pub ends : i.end ≤ length bytes

-- a well-formed item is at these offsets
abbrev pub IsWellFormedAt : List ℕ → ItemAt → Type 0
IsWellFormedAt bytes i = BeginsWithHead (drop i.offset bytes) i.kind i.argument (drop i.content bytes) × BeginsWithItem (drop i.offset bytes) (drop i.end bytes)

-- one fact for each outcome of a look-up
abbrev pub MatchLookup : Lookup → (ItemAt → Type 0) → Type 0 → Type 0 → Type 0
MatchLookup (Found i) F N M = F i
MatchLookup NotThere F N M = N
MatchLookup NotMap F N M = M
