-- Why an item is no tree (RFC 8949, section 5.6).
use Rattle.std.specs.Prelude.{◌<◌, ◌≤◌}
use Rattle.cbor_head.specs.declared.reason.Reason.TheVariants.{TooDeep, RepeatedKey, Memory}
use Rattle.cbor_head.specs.Value.{depth, array, tag, no_entries, entry}
use Rattle.cbor_head.specs.Prelude.{Value, Values, Entries, map, no_values, a_value, HasDistinctKeys}
use Rattle.cbor_head.specs.declared.{limits.TheConstants.MAX_DEPTH, reason.Reason.Reason}

-- no map, at any depth, has two pairs with the same key
abbrev mutual
  pub HasDistinctKeysThroughout : Value → Type 0
  HasDistinctKeysThroughout (array vs) = HaveDistinctKeysThroughout vs
  HasDistinctKeysThroughout (map es) = EntriesHaveDistinctKeysThroughout es × HasDistinctKeys es
  HasDistinctKeysThroughout (tag n v) = HasDistinctKeysThroughout v
  HasDistinctKeysThroughout _ = Unit {0}

  pub HaveDistinctKeysThroughout : Values → Type 0
  HaveDistinctKeysThroughout no_values = Unit {0}
  HaveDistinctKeysThroughout (a_value v vs) = HasDistinctKeysThroughout v × HaveDistinctKeysThroughout vs

  pub EntriesHaveDistinctKeysThroughout : Entries → Type 0
  EntriesHaveDistinctKeysThroughout no_entries = Unit {0}
  EntriesHaveDistinctKeysThroughout (entry k v es) = HasDistinctKeysThroughout k × HasDistinctKeysThroughout v × EntriesHaveDistinctKeysThroughout es

-- too deep; or not too deep, and a map has two pairs with the same key; or not too deep, and memory ran out
abbrev pub Refuses : Value → Reason → Type 0
Refuses v TooDeep = MAX_DEPTH < depth v
Refuses v RepeatedKey = (depth v ≤ MAX_DEPTH) × ¬ HasDistinctKeysThroughout v
Refuses v Memory = depth v ≤ MAX_DEPTH
Refuses v _ = ⊥
