-- The position in an item that is being read: the open containers with their complete members, and how the end of an
-- item changes them. By the plain rules, nothing that is complete has a complaint.
use Rattle.std.specs.Prelude.{ℕ, zero, suc, ◌≡◌, ◌<◌, ◌≤◌, ◌+◌, ◌-◌, ◌⊎◌, ◌++◌, true, false, List, [], ◌∷◌, length}
use Rattle.cbor_head.specs.Prelude.{plain, Complaint, Complains, Holds, head, Spelling, Spellings, SpelledEntries, array, a_map, tag, no_spellings, a_spelling, no_entries, entry, spell, spell_all, spell_entries, spellings_count, entries_count, IsSpelled, depth}
use Rattle.cbor_head.specs.declared.major.Major.TheVariants.{Array, Map, Tag}
use Rattle.cbor_head.specs.declared.{major.Major.Major, width.Width.Width, width.Width.TheVariants.Indefinite}
use Rattle.theory_verdicts.specs.Place.{Container, counted, indefinite_array, indefinite_map}
use Rattle.theory_verdicts.specs.Frame.{with_all, with_entries}

-- ---- items that were read completely

-- no complaint, at any offset
abbrev pub IsClean : Spelling → Type 0
IsClean s = (at : ℕ) (c : Complaint) → Complains plain at s c → ⊥

pub record IsTaken (d : ℕ) (s : Spelling) : Type 0 where
  pub spelled : IsSpelled s
  pub within : depth s ≤ d
  pub clean : IsClean s

abbrev pub AreTaken : ℕ → Spellings → Type 0
AreTaken d no_spellings = Unit {0}
AreTaken d (a_spelling s ss) = IsTaken d s × AreTaken d ss

-- pairs were read; whether keys are the same is not asked
abbrev pub ArePairsTaken : ℕ → SpelledEntries → Type 0
ArePairsTaken d no_entries = Unit {0}
ArePairsTaken d (entry k v es) = IsTaken d k × IsTaken d v × ArePairsTaken d es

-- ---- open containers

-- The complete members of an array; or the complete pairs of a map, and the key if its value is expected. This number
-- of members, or pairs, follows the one that is expected; or the length is indefinite.
pub data Level : Type 0 where
  a_member : Width → ℕ → Spellings → Level
  a_key : Width → ℕ → SpelledEntries → Level
  a_value : Width → ℕ → SpelledEntries → Spelling → Level
  some_member : Spellings → Level
  some_key : SpelledEntries → Level
  some_value : SpelledEntries → Spelling → Level
  tagged : Width → ℕ → Level

-- a container of this type before its first item; a tag with this number
abbrev pub IsOpened : Major → ℕ → Level → Type 0
IsOpened Array n l = ((w : Width) × (left : ℕ) × (l ≡ a_member w left no_spellings)) ⊎ (l ≡ some_member no_spellings)
IsOpened Map n l = ((w : Width) × (left : ℕ) × (l ≡ a_key w left no_entries)) ⊎ (l ≡ some_key no_entries)
IsOpened Tag n l = (w : Width) × (l ≡ tagged w n)
IsOpened _ n l = ⊥

-- the container, in the form in which events count its members
abbrev pub frame : Level → Container
frame (a_member w left done) = counted left
frame (a_key w left done) = counted (suc (left + left))
frame (a_value w left done k) = counted (left + left)
frame (some_member done) = indefinite_array
frame (some_key done) = indefinite_map false
frame (some_value done k) = indefinite_map true
frame (tagged w n) = counted 0

-- the bytes of a container so far
abbrev pub level_bytes : Level → List ℕ
level_bytes (a_member w left done) = head Array w (spellings_count done + suc left) ++ spell_all done
level_bytes (a_key w left done) = head Map w (entries_count done + suc left) ++ spell_entries done
level_bytes (a_value w left done k) = (head Map w (entries_count done + suc left) ++ spell_entries done) ++ spell k
level_bytes (some_member done) = head Array Indefinite 0 ++ spell_all done
level_bytes (some_key done) = head Map Indefinite 0 ++ spell_entries done
level_bytes (some_value done k) = (head Map Indefinite 0 ++ spell_entries done) ++ spell k
level_bytes (tagged w n) = head Tag w n

-- what is complete in a container nests no deeper than this
abbrev pub IsLevel : ℕ → Level → Type 0
IsLevel d (a_member w left done) = Holds w (spellings_count done + suc left) × AreTaken d done
IsLevel d (a_key w left done) = Holds w (entries_count done + suc left) × ArePairsTaken d done
IsLevel d (a_value w left done k) = Holds w (entries_count done + suc left) × ArePairsTaken d done × IsTaken d k
IsLevel d (some_member done) = AreTaken d done
IsLevel d (some_key done) = ArePairsTaken d done
IsLevel d (some_value done k) = ArePairsTaken d done × IsTaken d k
IsLevel d (tagged w n) = Holds w n

-- the same for all open containers, the innermost first
abbrev pub AreLevels : ℕ → List Level → Type 0
AreLevels d [] = Unit {0}
AreLevels d (l ∷ ls) = (length ls < d) × IsLevel (d - suc (length ls)) l × AreLevels d ls

abbrev pub bytes_before : List Level → List ℕ
bytes_before [] = []
bytes_before (l ∷ ls) = bytes_before ls ++ level_bytes l

-- ---- how the end of an item changes them

pub data ParseState : Type 0 where
  -- an item is expected within these containers
  item_expected : List Level → ParseState
  -- within these containers, this one has no more members
  item_full : List Level → Spelling → ParseState
  -- this item is complete, and is not in another
  item_whole : Spelling → ParseState

-- the position after this item, which is complete in these containers
abbrev pub settle : List Level → Spelling → ParseState
settle [] s = item_whole s
settle (a_member w zero done ∷ ls) s = item_full ls (array w (with_all done (a_spelling s no_spellings)))
settle (a_member w (suc left) done ∷ ls) s = item_expected (a_member w left (with_all done (a_spelling s no_spellings)) ∷ ls)
settle (some_member done ∷ ls) s = item_expected (some_member (with_all done (a_spelling s no_spellings)) ∷ ls)
settle (a_key w left done ∷ ls) s = item_expected (a_value w left done s ∷ ls)
settle (some_key done ∷ ls) s = item_expected (some_value done s ∷ ls)
settle (a_value w zero done k ∷ ls) s = item_full ls (a_map w (with_entries done (entry k s no_entries)))
settle (a_value w (suc left) done k ∷ ls) s = item_expected (a_key w left (with_entries done (entry k s no_entries)) ∷ ls)
settle (some_value done k ∷ ls) s = item_expected (some_key (with_entries done (entry k s no_entries)) ∷ ls)
settle (tagged w n ∷ ls) s = item_full ls (tag w n s)
