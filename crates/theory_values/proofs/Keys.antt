-- Keys that are the same are found by their canonical bytes.
use Rattle.std.proofs.Common.{◌≡◌, ◌↔◌, sym}
use Rattle.cbor_head.specs.Prelude.{Value, Entries, HasDistinctKeys, Same, AreEntriesInRange, canonical, canonical_entries}
use Rattle.cbor_head.specs.{Value.no_entries, Value.entry, declared.order.KeyOrder.KeyOrder}
use Rattle.theory_values.proofs.Sound.{IsSound, sound, key_at}
use Rattle.theory_values.proofs.Reported.{pair_in, pair_of, canonical_injective, distinct_bytes}
use Rattle.theory_values.{specs.Pairs.AreKeysValid, specs.Pairs.HasDistinctBytes, proofs.Sorting.differs_at, proofs.Agreement.canonical_agrees}

-- canonical bytes are equal exactly if the values are the same
pub same_exactly : (o : KeyOrder) (v w : Value) → IsSound v → IsSound w → Same v w ↔ (canonical o v ≡ canonical o w)
same_exactly o v w h g = (canonical_agrees o v w h g, canonical_injective o v w h.range g.range)

-- ---- by their bytes

pub distinct_from_bytes : (o : KeyOrder) (es : Entries) → AreEntriesInRange es → AreKeysValid es → HasDistinctBytes (canonical_entries o es) → HasDistinctKeys es
distinct_from_bytes o no_entries h g d = tt
distinct_from_bytes o (entry k v es) h g d = (
  (λ l w m s.
      let e = canonical_agrees o k l (sound k h.0 g.0) (key_at es l w h.2 g.1 m) s in
      differs_at (pair_of o k v) (canonical_entries o es) d (pair_of o l w) (pair_in o es l w m) (sym e)),
  distinct_from_bytes o es h.2 g.1 d.1,
)

pub distinct_exactly : (o : KeyOrder) (es : Entries) → AreEntriesInRange es → AreKeysValid es → HasDistinctKeys es ↔ HasDistinctBytes (canonical_entries o es)
distinct_exactly o es h g = (distinct_bytes o es h, distinct_from_bytes o es h g)
