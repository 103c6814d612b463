-- How many maps are open within an item, and how many bytes of their keys a strict reader has to store (RFC 8949, section 4.2).
use Rattle.std.specs.Prelude.{ℕ, ◌+◌, ◌-◌, nat_lt, if◌then◌else◌, length}
use Rattle.cbor_head.specs.Prelude.{head, Spelling, Spellings, SpelledEntries, array, a_map, tag, no_spellings, a_spelling, no_entries, entry, spellings_count, entries_count, spell}
use Rattle.cbor_head.specs.declared.major.Major.TheVariants.{Array, Map, Tag}
use Rattle.theory_automaton.specs.Open.{if_open}

-- the number of maps that are open after the first n bytes of an item, with those in a key that is not complete
abbrev mutual
  pub open_maps : ℕ → Spelling → ℕ
  open_maps n (array w ss) = open_maps_in (n - length (head Array w (spellings_count ss))) ss
  open_maps n (a_map w es) =
      if_open n (length (head Map w (entries_count es))) (length (spell (a_map w es))) (open_maps_in_entries (n - length (head Map w (entries_count es))) es)
  open_maps n (tag w k s) = open_maps (n - length (head Tag w k)) s
  open_maps n _ = 0

  -- in the member that is not complete
  pub open_maps_in : ℕ → Spellings → ℕ
  open_maps_in n no_spellings = 0
  open_maps_in n (a_spelling s ss) = if nat_lt n (length (spell s)) then open_maps n s else open_maps_in (n - length (spell s)) ss

  -- in the key or the value that is not complete
  pub open_maps_in_entries : ℕ → SpelledEntries → ℕ
  open_maps_in_entries n no_entries = 0
  open_maps_in_entries n (entry k v es) =
      if nat_lt n (length (spell k)) then open_maps n k
      else if nat_lt (n - length (spell k)) (length (spell v)) then open_maps (n - length (spell k)) v
      else open_maps_in_entries (n - length (spell k) - length (spell v)) es

-- how many of the first n bytes of an item, each once, are in the last complete key of an open map or in a key that is not
-- complete
abbrev mutual
  pub key_bytes : ℕ → Spelling → ℕ
  key_bytes n (array w ss) = key_bytes_in (n - length (head Array w (spellings_count ss))) ss
  key_bytes n (a_map w es) = if nat_lt n (length (spell (a_map w es))) then key_bytes_in_entries (n - length (head Map w (entries_count es))) 0 es else 0
  key_bytes n (tag w k s) = key_bytes (n - length (head Tag w k)) s
  key_bytes n _ = 0

  -- in the member that is not complete
  pub key_bytes_in : ℕ → Spellings → ℕ
  key_bytes_in n no_spellings = 0
  key_bytes_in n (a_spelling s ss) = if nat_lt n (length (spell s)) then key_bytes n s else key_bytes_in (n - length (spell s)) ss

  -- the last complete key, of this number of bytes, and all that was read of a next key; or, within a value, its key and the
  -- keys of the open maps in the value
  pub key_bytes_in_entries : ℕ → ℕ → SpelledEntries → ℕ
  key_bytes_in_entries n last no_entries = last
  key_bytes_in_entries n last (entry k v es) =
      if nat_lt n (length (spell k)) then last + n
      else if nat_lt (n - length (spell k)) (length (spell v)) then length (spell k) + key_bytes (n - length (spell k)) v
      else key_bytes_in_entries (n - length (spell k) - length (spell v)) (length (spell k)) es
