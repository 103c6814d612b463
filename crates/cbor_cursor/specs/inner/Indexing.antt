-- A table while it is made.
use Rattle.std.specs.Prelude.{ℕ, ◌≡◌, zero, suc, ◌+◌, ◌==◌, if◌then◌else◌, nat_le, List, [], ◌∷◌, length, drop}
use Rattle.cbor_head.specs.Prelude.{Spelling, major_number, spell}
use Rattle.cbor_cursor.specs.Index.{major_in, number_in, head_size, listed}
use Rattle.cbor_cursor.specs.{WellFormed.payload_of, WellFormed.members_of, inner.Definite.IsDefinite, declared.placed.PlacedItem.PlacedItem}

-- the bytes are one item of definite lengths
pub record IsDefiniteItem (bytes : List ℕ) : Type 0 where
  pub item : Spelling
  pub definite : IsDefinite item
  pub bytes_are : bytes ≡ spell item

-- the entry when its head is placed: if it has members, `end` is their number and `entries` is 0
abbrev pub opened_item : ℕ → ℕ → ℕ → ℕ → ℕ → ℕ → PlacedItem
opened_item kind number offset content end members =
    if members == 0 then record { number = number; offset = offset; content = content; end = end; kind = kind; entries = 1 }
    else record { number = number; offset = offset; content = content; end = members; kind = kind; entries = 0 }

-- the entry of an item at an offset when its head is placed
abbrev pub opened_at : ℕ → Spelling → PlacedItem
opened_at offset s =
    let kind = major_number (major_in s) in
    let content = offset + head_size s in
    opened_item kind (number_in s) offset content (content + payload_of kind (number_in s)) (members_of kind (number_in s))

-- the table with only the heads
abbrev pub opened_table : ℕ → Spelling → List PlacedItem
opened_table offset s = listed opened_at offset s

-- the end of the last of that many items at the start of a table, or this offset if there are none
abbrev pub end_of : ℕ → ℕ → List PlacedItem → ℕ
end_of zero end xs = end
end_of (suc n) end [] = end
end_of (suc n) end (x ∷ xs) = end_of n x.end (drop x.entries (x ∷ xs))

-- the number of their entries
abbrev pub entries_in : ℕ → List PlacedItem → ℕ
entries_in zero xs = 0
entries_in (suc n) [] = 0
entries_in (suc n) (x ∷ xs) = x.entries + entries_in n (drop x.entries (x ∷ xs))

-- the entry with the end of the last item within it
abbrev pub closed_item : PlacedItem → List PlacedItem → PlacedItem
closed_item x xs = if nat_le (entries_in x.end xs) (length xs) then record x { end = end_of x.end x.content xs; entries = suc (entries_in x.end xs) } else x

-- each entry that has no end yet, from the last to the first
abbrev pub closed : List PlacedItem → List PlacedItem
closed [] = []
closed (x ∷ xs) = (if x.entries == 0 then closed_item x (closed xs) else x) ∷ closed xs
