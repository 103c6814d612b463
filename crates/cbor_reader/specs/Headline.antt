-- Which inputs are accepted, and with which result (RFC 8949, sections 3, 4.2 and 5.3).
use Rattle.std.specs.Prelude.{ℕ, ◌≡◌, ◌<◌, ◌≤◌, List, length, IsUtf8}
use Rattle.std.specs.List.{AllByRecursion}
use Rattle.cbor_head.specs.Prelude.{canonical, Bounds, Spelling, Spellings, SpelledEntries, text, text_chunks, array, a_map, tag, no_spellings, a_spelling, no_entries, entry, IsItem, value_of, plain, Complaint, IsComplaint}
use Rattle.cbor_head.specs.declared.order.KeyOrder.{KeyOrder}

-- the whole input is this one item: well-formed, valid, and within the limits
pub record IsValidItem (limits : Bounds) (input : List ℕ) (s : Spelling) : Type 0 where
  pub well_formed : IsItem limits.depth s input
  pub valid : (c : Complaint) → IsComplaint limits plain s c → ⊥
  pub fits : length input ≤ limits.bytes

-- the input is such an item, and out is the canonical bytes of its value, which are within the byte limit too
abbrev pub HasResult : Bounds → KeyOrder → List ℕ → List ℕ → Type 0
HasResult limits o input out = (s : Spelling) × IsValidItem limits input s × (out ≡ canonical o (value_of s)) × (length out ≤ limits.bytes)

-- the input is no such item, or the canonical bytes of its value exceed the byte limit
abbrev pub HasNoResult : Bounds → KeyOrder → List ℕ → Type 0
HasNoResult limits o input = (s : Spelling) → IsValidItem limits input s → limits.bytes < length (canonical o (value_of s))

-- each text, and each chunk of one, is UTF-8 (sections 3.1 and 3.2.3)
abbrev mutual
  pub HasValidTexts : Spelling → Type 0
  HasValidTexts (text w payload) = IsUtf8 payload
  HasValidTexts (text_chunks cs) = AllByRecursion (λ c. IsUtf8 c.payload) cs
  HasValidTexts (array w ss) = HaveValidTexts ss
  HasValidTexts (a_map w es) = EntriesHaveValidTexts es
  HasValidTexts (tag w n s) = HasValidTexts s
  HasValidTexts _ = Unit {0}

  pub HaveValidTexts : Spellings → Type 0
  HaveValidTexts no_spellings = Unit {0}
  HaveValidTexts (a_spelling s ss) = HasValidTexts s × HaveValidTexts ss

  pub EntriesHaveValidTexts : SpelledEntries → Type 0
  EntriesHaveValidTexts no_entries = Unit {0}
  EntriesHaveValidTexts (entry k v es) = HasValidTexts k × HasValidTexts v × EntriesHaveValidTexts es
