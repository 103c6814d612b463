-- Members and pairs as lists of values (RFC 8949, section 2).
use Rattle.std.specs.Prelude.{List, [], ◌∷◌}
use Rattle.cbor_head.specs.Prelude.{Value, Values, Entries}
use Rattle.cbor_head.specs.Value as value

-- the members of an array
abbrev pub values_of : List Value → Values
values_of [] = value.no_values
values_of (v ∷ vs) = value.a_value v (values_of vs)

-- the pairs of a map
abbrev pub entries_of : List (Value × Value) → Entries
entries_of [] = value.no_entries
entries_of (p ∷ ps) = value.entry p.0 p.1 (entries_of ps)
