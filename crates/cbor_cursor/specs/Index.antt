-- All items in an item, in the order of their first bytes, each with its head and its offsets.
use Rattle.std.specs.Prelude.{ℕ, suc, ◌≡◌, ◌+◌, List, [], ◌∷◌, ◌++◌, length}
use Rattle.cbor_head.specs.Prelude.{Spelling, Spellings, SpelledEntries, unsigned, negative, bytes, text, byte_chunks, text_chunks, array, a_map, tag, simple, no_spellings, a_spelling, no_entries, entry, spell, spellings_count, entries_count, head, shortest, major_number, value_of, canonical, IsSpelled, IsInRange}
use Rattle.cbor_head.specs.declared.major.Major.TheVariants as majors
use Rattle.cbor_head.specs.declared.{width.Width.TheVariants.Indefinite, major.Major.Major, width.Width.Width, order.KeyOrder.KeyOrder}
use Rattle.cbor_cursor.specs.declared.placed.PlacedItem.{PlacedItem}

-- the bytes are this item, in its canonical form
pub record IsCanonicalItem (o : KeyOrder) (s : Spelling) (bytes : List ℕ) : Type 0 where
  pub spelled : IsSpelled s
  pub range : IsInRange (value_of s)
  pub bytes_are : bytes ≡ spell s
  pub canonical_bytes : bytes ≡ canonical o (value_of s)

-- the major type of an item
abbrev pub major_in : Spelling → Major
major_in (unsigned w n) = majors.Unsigned
major_in (negative w n) = majors.Negative
major_in (bytes w s) = majors.Bytes
major_in (text w s) = majors.Text
major_in (byte_chunks cs) = majors.Bytes
major_in (text_chunks cs) = majors.Text
major_in (array w ss) = majors.Array
major_in (a_map w es) = majors.Map
major_in (tag w n s) = majors.Tag
major_in (simple n) = majors.Simple

-- the width of its head
abbrev pub width_in : Spelling → Width
width_in (unsigned w n) = w
width_in (negative w n) = w
width_in (bytes w s) = w
width_in (text w s) = w
width_in (byte_chunks cs) = Indefinite
width_in (text_chunks cs) = Indefinite
width_in (array w ss) = w
width_in (a_map w es) = w
width_in (tag w n s) = w
width_in (simple n) = shortest n

-- the argument of its head: the number of bytes of a string, of members of an array, or of pairs of a map
abbrev pub number_in : Spelling → ℕ
number_in (unsigned w n) = n
number_in (negative w n) = n
number_in (bytes w s) = length s
number_in (text w s) = length s
number_in (byte_chunks cs) = 0
number_in (text_chunks cs) = 0
number_in (array w ss) = spellings_count ss
number_in (a_map w es) = entries_count es
number_in (tag w n s) = n
number_in (simple n) = n

-- the number of bytes of its head
abbrev pub head_size : Spelling → ℕ
head_size s = length (head (major_in s) (width_in s) (number_in s))

-- the number of items in an item: itself, and all within it
abbrev mutual
  pub items_count : Spelling → ℕ
  items_count (array w ss) = suc (all_count ss)
  items_count (a_map w es) = suc (pairs_count es)
  items_count (tag w n s) = suc (items_count s)
  items_count _ = 1

  pub all_count : Spellings → ℕ
  all_count no_spellings = 0
  all_count (a_spelling s ss) = items_count s + all_count ss

  pub pairs_count : SpelledEntries → ℕ
  pairs_count no_entries = 0
  pairs_count (entry k v es) = items_count k + items_count v + pairs_count es

-- an item whose first byte is at an offset
abbrev pub placed : ℕ → Spelling → PlacedItem
placed offset s = record { number = number_in s; offset = offset; content = offset + head_size s; end = offset + length (spell s); kind = major_number (major_in s); entries = items_count s }

-- f of an item at an offset, and of all items within it, in the order of their first bytes
abbrev mutual
  pub listed : (ℕ → Spelling → PlacedItem) → ℕ → Spelling → List PlacedItem
  listed f offset (array w ss) = f offset (array w ss) ∷ all_listed f (offset + head_size (array w ss)) ss
  listed f offset (a_map w es) = f offset (a_map w es) ∷ pairs_listed f (offset + head_size (a_map w es)) es
  listed f offset (tag w n s) = f offset (tag w n s) ∷ listed f (offset + head_size (tag w n s)) s
  listed f offset s = f offset s ∷ []

  pub all_listed : (ℕ → Spelling → PlacedItem) → ℕ → Spellings → List PlacedItem
  all_listed f offset no_spellings = []
  all_listed f offset (a_spelling s ss) = listed f offset s ++ all_listed f (offset + length (spell s)) ss

  pub pairs_listed : (ℕ → Spelling → PlacedItem) → ℕ → SpelledEntries → List PlacedItem
  pairs_listed f offset no_entries = []
  pairs_listed f offset (entry k v es) = listed f offset k ++ (listed f (offset + length (spell k)) v ++ pairs_listed f (offset + length (spell k) + length (spell v)) es)

-- the table of an item whose first byte is at an offset
abbrev pub table : ℕ → Spelling → List PlacedItem
table offset s = listed placed offset s
