-- Lists of encoded pairs, by their keys (RFC 8949, sections 4.2.1 and 4.2.3).
use Rattle.std.specs.Prelude.{ℕ, ◌≢◌, ◌++◌, IsTrue, List, [], ◌∷◌}
use Rattle.std.specs.List.{AllByRecursion}
use Rattle.cbor_head.specs.Prelude.{key_lt, Pair, Entries, IsValid}
use Rattle.cbor_head.specs.{declared.order.KeyOrder.KeyOrder, Value.no_entries, Value.entry}

-- the bytes of a pair: its key, and then its value
abbrev pub pair_bytes : Pair → List ℕ
pair_bytes p = p.key ++ p.value

-- each key comes before all that follow it
abbrev pub IsRising : KeyOrder → List Pair → Type 0
IsRising o [] = Unit {0}
IsRising o (p ∷ ps) = AllByRecursion (λ q. IsTrue (key_lt o p.key q.key)) ps × IsRising o ps

-- no two keys have the same bytes
abbrev pub HasDistinctBytes : List Pair → Type 0
HasDistinctBytes [] = Unit {0}
HasDistinctBytes (p ∷ ps) = AllByRecursion (λ q. q.key ≢ p.key) ps × HasDistinctBytes ps

-- the keys are valid; nothing is said of the values
abbrev pub AreKeysValid : Entries → Type 0
AreKeysValid no_entries = Unit {0}
AreKeysValid (entry k v es) = IsValid k × AreKeysValid es
