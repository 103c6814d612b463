-- Values whose texts are UTF-8 are valid exactly if no key is repeated.
use Rattle.cbor_head.specs.Prelude.{Value, Values, Entries, map, no_values, a_value, IsValid, AreValid, AreEntriesValid}
use Rattle.cbor_head.specs.Value.{text, array, tag, no_entries, entry}
use Rattle.cbor_item.specs.Refused.{HasDistinctKeysThroughout, HaveDistinctKeysThroughout, EntriesHaveDistinctKeysThroughout}
use Rattle.cbor_item.specs.inner.Texts.{HasUtf8Texts, HaveUtf8Texts, EntriesHaveUtf8Texts}

mutual
  pub valid_from : (v : Value) → HasUtf8Texts v → HasDistinctKeysThroughout v → IsValid v
  valid_from (text s) u d = u
  valid_from (array vs) u d = all_valid_from vs u d
  valid_from (map es) u d = (entries_valid_from es u d.0, d.1)
  valid_from (tag n v) u d = valid_from v u d
  valid_from _ u d = tt

  all_valid_from : (vs : Values) → HaveUtf8Texts vs → HaveDistinctKeysThroughout vs → AreValid vs
  all_valid_from no_values u d = tt
  all_valid_from (a_value v vs) u d = (valid_from v u.0 d.0, all_valid_from vs u.1 d.1)

  entries_valid_from : (es : Entries) → EntriesHaveUtf8Texts es → EntriesHaveDistinctKeysThroughout es → AreEntriesValid es
  entries_valid_from no_entries u d = tt
  entries_valid_from (entry k v es) u d = (valid_from k u.0 d.0, valid_from v u.1 d.1, entries_valid_from es u.2 d.2)
