-- The size of a value in memory.
use Rattle.std.specs.Prelude.{ℕ, suc, ◌+◌, length}
use Rattle.cbor_head.specs.Prelude.{Value, Values, Entries, map, no_values, a_value}
use Rattle.cbor_head.specs.Value.{bytes, text, array, tag, no_entries, entry}

-- the number of its items, at every depth, and of the bytes of its strings
abbrev mutual
  pub size : Value → ℕ
  size (bytes s) = suc (length s)
  size (text s) = suc (length s)
  size (array vs) = suc (size_all vs)
  size (map es) = suc (size_entries es)
  size (tag n v) = suc (size v)
  size _ = 1

  pub size_all : Values → ℕ
  size_all no_values = 0
  size_all (a_value v vs) = size v + size_all vs

  pub size_entries : Entries → ℕ
  size_entries no_entries = 0
  size_entries (entry k v es) = size k + size v + size_entries es
