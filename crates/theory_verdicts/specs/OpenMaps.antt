-- The containers that are open around an item, and the complete keys of the maps among them.
use Rattle.std.specs.Prelude.{ℕ, suc, ◌+◌, ◌≡◌, ◌≤◌, ◌⊎◌, ◌++◌, List, [], ◌∷◌, length}
use Rattle.cbor_head.specs.Prelude.{head, Spelling, SpelledEntries, no_entries, entry, spell, spell_entries, spellings_count, entries_count, Rules, Complaint, OfHead, OfCount, OfKey, Complains}
use Rattle.cbor_head.specs.declared.major.Major.TheVariants.{Array, Map, Tag}
use Rattle.theory_values.specs.MemberComplaints.{ComplainsIn}
use Rattle.theory_verdicts.specs.Frame.{Frame, a_member, a_key, a_content, tagged, before, IsFrame, depth_beside}

-- ---- the complete keys of a map

-- a key, and the offset where it begins
pub record Placed : Type 0 where
  pub place : ℕ
  pub key : Spelling

abbrev pub placed : ℕ → Spelling → Placed
placed place key = record { place = place; key = key }

-- the keys of the pairs from an offset on, in order of arrival
abbrev pub keys_at : ℕ → SpelledEntries → List Placed
keys_at at no_entries = []
keys_at at (entry k v es) = placed at k ∷ keys_at (at + length (spell k) + length (spell v)) es

-- the complete keys of the container at an offset, which is open around an item, if it is a map. A key that the item
-- is in is not complete; the key of the value that it is in is complete.
abbrev pub open_keys : ℕ → Frame → List Placed
open_keys at (a_key w a v b) = keys_at (at + length (head Map w (entries_count a + suc (entries_count b)))) a
open_keys at (a_content w a k b) =
    keys_at (at + length (head Map w (entries_count a + suc (entries_count b)))) a
    ++ placed (at + length (head Map w (entries_count a + suc (entries_count b)) ++ spell_entries a)) k ∷ []
open_keys at _ = []

-- the keys alone, the last first, and then the others
abbrev pub onto : List Spelling → List Placed → List Spelling
onto ks [] = ks
onto ks (x ∷ xs) = onto (x.key ∷ ks) xs

-- a complaint about one of these keys, which come after the others
abbrev pub OnKeys : Rules → List Spelling → List Placed → Complaint → Type 0
OnKeys r ks [] c = ⊥
OnKeys r ks (x ∷ xs) c = OfKey r.keys x.place ks x.key c ⊎ OnKeys r (x.key ∷ ks) xs c

-- no complaint is about any of these keys: by the plain rules, no two of them are the same
abbrev pub AreDistinct : Rules → List Placed → Type 0
AreDistinct r xs = (c : Complaint) → OnKeys r [] xs c → ⊥

-- ---- what is closed

-- a complaint within the keys and values of pairs from an offset on, each separately
abbrev pub ComplainsWithin : Rules → ℕ → SpelledEntries → Complaint → Type 0
ComplainsWithin r at no_entries c = ⊥
ComplainsWithin r at (entry k v es) c =
    Complains r at k c ⊎ Complains r (at + length (spell k)) v c ⊎ ComplainsWithin r (at + length (spell k) + length (spell v)) es c

-- a complaint about what comes before the item in the open container, but not about the keys of that container
abbrev pub OfClosed : Rules → ℕ → Frame → Complaint → Type 0
OfClosed r at (a_member w a b) c =
    OfCount r at Array w (spellings_count a + suc (spellings_count b)) c ⊎ ComplainsIn r (at + length (head Array w (spellings_count a + suc (spellings_count b)))) a c
OfClosed r at (a_key w a v b) c =
    OfCount r at Map w (entries_count a + suc (entries_count b)) c ⊎ ComplainsWithin r (at + length (head Map w (entries_count a + suc (entries_count b)))) a c
OfClosed r at (a_content w a k b) c =
    OfCount r at Map w (entries_count a + suc (entries_count b)) c ⊎ ComplainsWithin r (at + length (head Map w (entries_count a + suc (entries_count b)))) a c
    ⊎ Complains r (at + length (head Map w (entries_count a + suc (entries_count b)) ++ spell_entries a)) k c
OfClosed r at (tagged w n) c = OfHead r at Tag w n c

-- ---- the path of open containers, the outermost first

-- the bytes before the item
abbrev pub before_all : List Frame → List ℕ
before_all [] = []
before_all (f ∷ fs) = before f ++ before_all fs

-- the containers are well-formed around an item of this depth
abbrev pub ArePath : ℕ → List Frame → Type 0
ArePath d [] = Unit {0}
ArePath d (f ∷ fs) = IsFrame f × (depth_beside f ≤ length fs + d) × ArePath d fs

-- nothing that is closed has a complaint
abbrev pub AreClosedClean : Rules → ℕ → List Frame → Type 0
AreClosedClean r at [] = Unit {0}
AreClosedClean r at (f ∷ fs) = ((c : Complaint) → OfClosed r at f c → ⊥) × AreClosedClean r (at + length (before f)) fs

-- no open map has a complaint about its complete keys
abbrev pub AreOpenDistinct : Rules → ℕ → List Frame → Type 0
AreOpenDistinct r at [] = Unit {0}
AreOpenDistinct r at (f ∷ fs) = AreDistinct r (open_keys at f) × AreOpenDistinct r (at + length (before f)) fs

-- These containers are open within this number of levels, and nothing that is closed has a complaint. An item is
-- expected in the innermost.
pub record AreOpen (r : Rules) (depth : ℕ) (fs : List Frame) : Type 0 where
  pub left : ℕ
  pub levels : length fs + left ≡ depth
  pub path : ArePath left fs
  pub closed : AreClosedClean r 0 fs
