-- The canonical bytes of a value (RFC 8949, sections 4.2.1 and 4.2.3).
use Rattle.std.specs.Prelude.{◌++◌, if◌then◌else◌, ℕ, List, [], ◌∷◌, length, flat_map}
use Rattle.cbor_head.specs.Value.{Value, Values, Entries, unsigned, negative, bytes, text, array, map, tag, simple, no_values, a_value, no_entries, entry, values_count, entries_count}
use Rattle.cbor_head.specs.declared.major.Major.TheVariants.{Unsigned, Negative, Bytes, Text, Array, Map, Tag, Simple}
use Rattle.cbor_head.specs.{Head.shortest_head, Order.key_lt, declared.order.KeyOrder.KeyOrder}

-- an encoded key, and the encoded value after it
pub record Pair : Type 0 where
  pub key : List ℕ
  pub value : List ℕ

-- a pair inserted before the first pair whose key comes after its own
abbrev pub put : KeyOrder → Pair → List Pair → List Pair
put o p [] = p ∷ []
put o p (q ∷ qs) = if key_lt o p.key q.key then p ∷ q ∷ qs else q ∷ put o p qs

-- the pairs in rising order of their keys: the only such list, if no two keys are equal
abbrev pub in_order : KeyOrder → List Pair → List Pair
in_order o [] = []
in_order o (p ∷ ps) = put o p (in_order o ps)

-- the deterministic encoding: every argument in its shortest head, nothing of indefinite length, each map in order
abbrev mutual
  pub canonical : KeyOrder → Value → List ℕ
  canonical o (unsigned n) = shortest_head Unsigned n
  canonical o (negative n) = shortest_head Negative n
  canonical o (bytes s) = shortest_head Bytes (length s) ++ s
  canonical o (text s) = shortest_head Text (length s) ++ s
  canonical o (array vs) = shortest_head Array (values_count vs) ++ canonical_all o vs
  canonical o (map es) = shortest_head Map (entries_count es) ++ flat_map (λ (p : Pair). p.key ++ p.value) (in_order o (canonical_entries o es))
  canonical o (tag n v) = shortest_head Tag n ++ canonical o v
  canonical o (simple n) = shortest_head Simple n

  pub canonical_all : KeyOrder → Values → List ℕ
  canonical_all o no_values = []
  canonical_all o (a_value v vs) = canonical o v ++ canonical_all o vs

  pub canonical_entries : KeyOrder → Entries → List Pair
  canonical_entries o no_entries = []
  canonical_entries o (entry k v es) = record { key = canonical o k; value = canonical o v } ∷ canonical_entries o es
