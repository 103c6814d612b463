-- How many containers are open within an item (RFC 8949, section 3).
use Rattle.std.specs.Prelude.{ℕ, suc, ◌+◌, ◌-◌, ◌&&◌, nat_lt, nat_le, if◌then◌else◌, length}
use Rattle.cbor_head.specs.Prelude.{head, Spelling, Spellings, SpelledEntries, array, a_map, tag, no_spellings, a_spelling, no_entries, entry, spellings_count, entries_count, spell}
use Rattle.cbor_head.specs.declared.major.Major.TheVariants.{Array, Map, Tag}

-- A container is open from its head until its last member or its break is complete. The container has `all` bytes and a
-- head of `head` bytes; t is the number of bytes read. What is open in it is counted too.
abbrev pub if_open : ℕ → ℕ → ℕ → ℕ → ℕ
if_open t head_bytes all inner = if nat_le head_bytes t && nat_lt t all then suc inner else 0

-- the number of arrays, maps and tags that are open after the first t bytes of an item
abbrev mutual
  pub open_after : ℕ → Spelling → ℕ
  open_after t (array w ss) = if_open t (length (head Array w (spellings_count ss))) (length (spell (array w ss))) (open_in t (length (head Array w (spellings_count ss))) ss)
  open_after t (a_map w es) = if_open t (length (head Map w (entries_count es))) (length (spell (a_map w es))) (open_in_entries t (length (head Map w (entries_count es))) es)
  open_after t (tag w n s) = if_open t (length (head Tag w n)) (length (spell (tag w n s))) (open_after (t - length (head Tag w n)) s)
  open_after t _ = 0

  -- the same for members after the first `at` bytes: only the member that is not complete has any
  pub open_in : ℕ → ℕ → Spellings → ℕ
  open_in t at no_spellings = 0
  open_in t at (a_spelling s ss) = if nat_lt (t - at) (length (spell s)) then open_after (t - at) s else open_in t (at + length (spell s)) ss

  -- the same for pairs after the first `at` bytes: only the key or value that is not complete has any
  pub open_in_entries : ℕ → ℕ → SpelledEntries → ℕ
  open_in_entries t at no_entries = 0
  open_in_entries t at (entry k v es) =
      if nat_lt (t - at) (length (spell k)) then open_after (t - at) k
      else if nat_lt (t - (at + length (spell k))) (length (spell v)) then open_after (t - (at + length (spell k))) v
      else open_in_entries t (at + length (spell k) + length (spell v)) es
