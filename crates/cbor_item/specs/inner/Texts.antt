-- Values whose texts are UTF-8, at every depth (RFC 8949, section 3.1).
use Rattle.std.specs.Prelude.{IsUtf8}
use Rattle.cbor_head.specs.Prelude.{Value, Values, Entries, map, no_values, a_value}
use Rattle.cbor_head.specs.Value.{text, array, tag, no_entries, entry}

abbrev mutual
  pub HasUtf8Texts : Value → Type 0
  HasUtf8Texts (text s) = IsUtf8 s
  HasUtf8Texts (array vs) = HaveUtf8Texts vs
  HasUtf8Texts (map es) = EntriesHaveUtf8Texts es
  HasUtf8Texts (tag n v) = HasUtf8Texts v
  HasUtf8Texts _ = Unit {0}

  pub HaveUtf8Texts : Values → Type 0
  HaveUtf8Texts no_values = Unit {0}
  HaveUtf8Texts (a_value v vs) = HasUtf8Texts v × HaveUtf8Texts vs

  pub EntriesHaveUtf8Texts : Entries → Type 0
  EntriesHaveUtf8Texts no_entries = Unit {0}
  EntriesHaveUtf8Texts (entry k v es) = HasUtf8Texts k × HasUtf8Texts v × EntriesHaveUtf8Texts es
