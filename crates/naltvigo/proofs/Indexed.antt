-- The table of an input that is its own result.
use Rattle.std.proofs.Common.{ℕ, ◌≡◌, ◌<◌, ◌≤◌, ◌^◌, ◌↔◌, List, length, take, drop, refl, sym}
use Rattle.cbor_head.specs.Prelude.{Bounds, Spelling, spell, plain, IsVerdict, accepted, value_of, IsInRange, IsValid}
use Rattle.cbor_head.specs.Value as value
use Rattle.cbor_head.specs.declared.order.KeyOrder.{KeyOrder}
use Rattle.cbor_reader.specs.{Canonicalise.IsCanonicalOf, Headline.IsValidItem}
use Rattle.cbor_cursor.specs.{Index.table, Index.IsCanonicalItem, declared.placed.PlacedItem.PlacedItem}
use Rattle.naltvigo.specs.inner.Items.{IsIndexed}

module _ (limits : Bounds) (o : KeyOrder) (input : List ℕ) (own : IsCanonicalOf limits o input input)
    (valid : (s : Spelling) → IsValidItem limits input s ↔ (IsVerdict limits plain input (accepted s) × (spell s ≡ input)))
    (in_range : (s : Spelling) → IsValidItem limits input s → IsInRange (value_of s) × IsValid (value_of s) × (value.depth (value_of s) ≤ limits.depth)) where
  is_valid : IsValidItem limits input own.item
  is_valid = (valid own.item).1 (own.verdict, own.whole)

  pub canonical_item : IsCanonicalItem o own.item input
  canonical_item = record {
    spelled = is_valid.well_formed.spelled;
    range = (in_range own.item is_valid).0;
    bytes_are = sym own.whole;
    canonical_bytes = own.canonical_bytes;
  }

  pub indexed : (old new : List PlacedItem) (count : ℕ) → (count ≡ length (table 0 own.item)) × (count ≤ length old → count < 2 ^ 32 → take count new ≡ table 0 own.item)
      → drop count new ≡ drop count old → IsIndexed limits o input old new count
  indexed old new count t k = record {
    own = own;
    entries = table 0 own.item;
    table = record { item = own.item; valid = is_valid; canonical_bytes = own.canonical_bytes; entries_are = refl };
    count_is = t.0;
    filled = t.1;
    kept = k;
  }
