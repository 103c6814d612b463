-- A container around an item: what comes before the item in it, and what comes after.
use Rattle.std.specs.Prelude.{ℕ, suc, max, ◌+◌, ◌⊎◌, ◌++◌, List, [], ◌∷◌, length}
use Rattle.cbor_head.specs.Prelude.{Holds, head, Spelling, Spellings, SpelledEntries, array, a_map, tag, no_spellings, a_spelling, no_entries, entry, spell, spell_all, spell_entries, spellings_count, entries_count, break_of, IsSpelled, AreSpelled, AreEntriesSpelled, HoldsOrIndefinite, depth, depth_all, depth_entries, Rules, Complaint, OfHead, OfCount, OfKey, ComplainsBy, ComplainsInBy, ComplainsInEntriesBy}
use Rattle.cbor_head.specs.declared.major.Major.TheVariants.{Array, Map, Tag}
use Rattle.cbor_head.specs.declared.width.Width.{Width}

pub data Frame : Type 0 where
  -- a member of an array, after and before others
  a_member : Width → Spellings → Spellings → Frame
  -- a key: the pairs before it, its value, the pairs after
  a_key : Width → SpelledEntries → Spelling → SpelledEntries → Frame
  -- a value: the pairs before it, its key, the pairs after
  a_content : Width → SpelledEntries → Spelling → SpelledEntries → Frame
  tagged : Width → ℕ → Frame

abbrev pub with_all : Spellings → Spellings → Spellings
with_all no_spellings ts = ts
with_all (a_spelling s ss) ts = a_spelling s (with_all ss ts)

abbrev pub with_entries : SpelledEntries → SpelledEntries → SpelledEntries
with_entries no_entries fs = fs
with_entries (entry k v es) fs = entry k v (with_entries es fs)

-- the keys of the pairs, the last first, and then the others
abbrev pub keys_onto : List Spelling → SpelledEntries → List Spelling
keys_onto ks no_entries = ks
keys_onto ks (entry k v es) = keys_onto (k ∷ ks) es

-- the container with this item in it
abbrev pub plug : Frame → Spelling → Spelling
plug (a_member w a b) s = array w (with_all a (a_spelling s b))
plug (a_key w a v b) s = a_map w (with_entries a (entry s v b))
plug (a_content w a k b) s = a_map w (with_entries a (entry k s b))
plug (tagged w n) s = tag w n s

-- the bytes before the item
abbrev pub before : Frame → List ℕ
before (a_member w a b) = head Array w (spellings_count a + suc (spellings_count b)) ++ spell_all a
before (a_key w a v b) = head Map w (entries_count a + suc (entries_count b)) ++ spell_entries a
before (a_content w a k b) = head Map w (entries_count a + suc (entries_count b)) ++ spell_entries a ++ spell k
before (tagged w n) = head Tag w n

-- the bytes after the item
abbrev pub following : Frame → List ℕ
following (a_member w a b) = spell_all b ++ break_of w
following (a_key w a v b) = spell v ++ spell_entries b ++ break_of w
following (a_content w a k b) = spell_entries b ++ break_of w
following (tagged w n) = []

abbrev pub IsFrame : Frame → Type 0
IsFrame (a_member w a b) = HoldsOrIndefinite w (spellings_count a + suc (spellings_count b)) × AreSpelled a × AreSpelled b
IsFrame (a_key w a v b) = HoldsOrIndefinite w (entries_count a + suc (entries_count b)) × AreEntriesSpelled a × IsSpelled v × AreEntriesSpelled b
IsFrame (a_content w a k b) = HoldsOrIndefinite w (entries_count a + suc (entries_count b)) × AreEntriesSpelled a × IsSpelled k × AreEntriesSpelled b
IsFrame (tagged w n) = Holds w n

-- the depth of the other members
abbrev pub depth_beside : Frame → ℕ
depth_beside (a_member w a b) = max (depth_all a) (depth_all b)
depth_beside (a_key w a v b) = max (max (depth_entries a) (depth v)) (depth_entries b)
depth_beside (a_content w a k b) = max (max (depth_entries a) (depth k)) (depth_entries b)
depth_beside (tagged w n) = 0

-- a complaint about what comes before the item, where K has those of each key
abbrev pub OfPrefixBy : Rules → (ℕ → List Spelling → Spelling → Complaint → Type 0) → ℕ → Frame → Complaint → Type 0
OfPrefixBy r K at (a_member w a b) c =
    OfCount r at Array w (spellings_count a + suc (spellings_count b)) c ⊎ ComplainsInBy r K (at + length (head Array w (spellings_count a + suc (spellings_count b)))) a c
OfPrefixBy r K at (a_key w a v b) c =
    OfCount r at Map w (entries_count a + suc (entries_count b)) c ⊎ ComplainsInEntriesBy r K (at + length (head Map w (entries_count a + suc (entries_count b)))) [] a c
OfPrefixBy r K at (a_content w a k b) c =
    OfCount r at Map w (entries_count a + suc (entries_count b)) c ⊎ ComplainsInEntriesBy r K (at + length (head Map w (entries_count a + suc (entries_count b)))) [] a c
    ⊎ ComplainsBy r K (at + length (head Map w (entries_count a + suc (entries_count b)) ++ spell_entries a)) k c
    ⊎ K (at + length (head Map w (entries_count a + suc (entries_count b)) ++ spell_entries a)) (keys_onto [] a) k c
OfPrefixBy r K at (tagged w n) c = OfHead r at Tag w n c

-- a complaint about the item as a key
abbrev pub OfKeyAtBy : Rules → (ℕ → List Spelling → Spelling → Complaint → Type 0) → ℕ → Frame → Spelling → Complaint → Type 0
OfKeyAtBy r K at (a_key w a v b) s c = K at (keys_onto [] a) s c
OfKeyAtBy r K at _ s c = ⊥

-- a complaint about what comes after the item
abbrev pub OfBackBy : Rules → (ℕ → List Spelling → Spelling → Complaint → Type 0) → ℕ → Frame → Spelling → Complaint → Type 0
OfBackBy r K at (a_member w a b) s c = ComplainsInBy r K at b c
OfBackBy r K at (a_key w a v b) s c = ComplainsBy r K at v c ⊎ ComplainsInEntriesBy r K (at + length (spell v)) (s ∷ keys_onto [] a) b c
OfBackBy r K at (a_content w a k b) s c = ComplainsInEntriesBy r K at (k ∷ keys_onto [] a) b c
OfBackBy r K at (tagged w n) s c = ⊥

-- by the rules
abbrev pub OfPrefix : Rules → ℕ → Frame → Complaint → Type 0
OfPrefix r = OfPrefixBy r (OfKey r.keys)

abbrev pub OfKeyAt : Rules → ℕ → Frame → Spelling → Complaint → Type 0
OfKeyAt r = OfKeyAtBy r (OfKey r.keys)

abbrev pub OfBack : Rules → ℕ → Frame → Spelling → Complaint → Type 0
OfBack r = OfBackBy r (OfKey r.keys)
