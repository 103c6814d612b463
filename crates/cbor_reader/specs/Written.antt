-- The parts of a value, written one after another in the order given.
use Rattle.std.specs.Prelude.{ℕ, List, [], ◌++◌, length}
use Rattle.cbor_head.specs.Value as value
use Rattle.cbor_head.specs.Prelude.{shortest_head, Value, Values, Entries, values_count}
use Rattle.cbor_head.specs.declared.major.Major.TheVariants.{Unsigned, Negative, Bytes, Text, Array, Map, Tag, Simple}

-- a value's shortest head, and then the bytes of a string, the members, the keys and values, or the content
abbrev mutual
  pub written : Value → List ℕ
  written (value.unsigned n) = shortest_head Unsigned n
  written (value.negative n) = shortest_head Negative n
  written (value.bytes s) = shortest_head Bytes (length s) ++ s
  written (value.text s) = shortest_head Text (length s) ++ s
  written (value.array vs) = shortest_head Array (values_count vs) ++ written_all vs
  written (value.map es) = shortest_head Map (value.entries_count es) ++ written_pairs es
  written (value.tag n v) = shortest_head Tag n ++ written v
  written (value.simple n) = shortest_head Simple n

  pub written_all : Values → List ℕ
  written_all value.no_values = []
  written_all (value.a_value v vs) = written v ++ written_all vs

  pub written_pairs : Entries → List ℕ
  written_pairs value.no_entries = []
  written_pairs (value.entry k v es) = written k ++ written v ++ written_pairs es
