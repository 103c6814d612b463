-- Members of arrays by their index, values of maps by their keys (RFC 8949, section 5.6), and integers as values.
use Rattle.std.specs.Prelude.{ℕ, zero, suc, Option, Some, None, ℤ, pos, negsuc}
use Rattle.cbor_head.specs.Prelude.{Value, Values, map, no_values, a_value, HasEntry, Same}
use Rattle.cbor_head.specs.Value.{array, unsigned, negative}

-- the member at an index; the first has index 0
abbrev pub member_at : Values → ℕ → Option Value
member_at no_values i = None
member_at (a_value v vs) zero = Some v
member_at (a_value v vs) (suc i) = member_at vs i

-- the member of an array at an index
abbrev pub member_of : Value → ℕ → Option Value
member_of (array vs) i = member_at vs i
member_of _ i = None

-- the value is a map with a pair of the same key as k and of the value v
abbrev pub HasValueAt : Value → Value → Value → Type 0
HasValueAt (map es) k v = (l : Value) × HasEntry es l v × Same l k
HasValueAt _ k v = ⊥

-- the integer as a value: -1 - n has the argument n
abbrev pub integer : ℤ → Value
integer (pos n) = unsigned n
integer (negsuc n) = negative n
