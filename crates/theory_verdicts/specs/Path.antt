-- The position of an item: the containers that are open around it, and their complete members.
use Rattle.std.specs.Prelude.{ℕ, suc, ◌+◌, ◌-◌, ◌<◌, ◌≤◌, ◌++◌, List, [], ◌∷◌, length}
use Rattle.cbor_head.specs.Prelude.{Holds, head, Rules, Complaint, OfHead, OfKey, Complains, Spelling, Spellings, SpelledEntries, spell, spellings_count, entries_count, IsSpelled, depth}
use Rattle.cbor_head.specs.declared.{major.Major.TheVariants.Tag, width.Width.Width, width.Width.TheVariants.Indefinite}
use Rattle.theory_verdicts.specs.SoFar.{IsArraySoFar, IsMapSoFar, array_bytes, map_bytes}
use Rattle.theory_verdicts.specs.Frame.{keys_onto}

-- An open container: the complete members of an array; or the complete pairs of a map, and the key whose value
-- is expected. This number of members, or pairs, follows the one that is expected; for an indefinite length none
-- is counted.
pub data Level : Type 0 where
  a_member : Width → ℕ → Spellings → Level
  a_key : Width → ℕ → SpelledEntries → Level
  a_value : Width → ℕ → SpelledEntries → Spelling → Level
  tagged : Width → ℕ → Level

-- the bytes of a container so far
abbrev pub level_bytes : Level → List ℕ
level_bytes (a_member w left done) = array_bytes w (spellings_count done + suc left) done
level_bytes (a_key w left done) = map_bytes w (entries_count done + suc left) done
level_bytes (a_value w left done k) = map_bytes w (entries_count done + suc left) done ++ spell k
level_bytes (tagged w n) = head Tag w n

-- a map of n pairs at an offset has these complete pairs and then this key, without complaint
pub record IsValueExpected (r : Rules) (at d : ℕ) (w : Width) (n : ℕ) (done : SpelledEntries) (k : Spelling) : Type 0 where
  pub so_far : IsMapSoFar r at d w n done
  pub spelled : IsSpelled k
  pub within : depth k ≤ d
  pub clean : (c : Complaint) → Complains r (at + length (map_bytes w n done)) k c → ⊥
  pub fits : (c : Complaint) → OfKey r.keys (at + length (map_bytes w n done)) (keys_onto [] done) k c → ⊥

-- what is complete in a container nests no deeper than this, and nothing has a complaint
abbrev pub IsClean : Rules → ℕ → ℕ → Level → Type 0
IsClean r at d (a_member w left done) = IsArraySoFar r at d w (spellings_count done + suc left) done
IsClean r at d (a_key w left done) = IsMapSoFar r at d w (entries_count done + suc left) done
IsClean r at d (a_value w left done k) = IsValueExpected r at d w (entries_count done + suc left) done k
IsClean r at d (tagged w n) = Holds w n × ((c : Complaint) → OfHead r at Tag w n c → ⊥)

-- the bytes before the item that is expected in these containers, the innermost first
abbrev pub bytes_before : List Level → List ℕ
bytes_before [] = []
bytes_before (l ∷ ls) = bytes_before ls ++ level_bytes l

-- the containers are open within this number of levels, and nothing in them has a complaint
abbrev pub AreClean : Rules → ℕ → List Level → Type 0
AreClean r d [] = Unit {0}
AreClean r d (l ∷ ls) = (length ls < d) × IsClean r (length (bytes_before ls)) (d - suc (length ls)) l × AreClean r d ls

-- an item is complete in these containers
pub record HasEnded (r : Rules) (d : ℕ) (ls : List Level) (s : Spelling) : Type 0 where
  pub around : AreClean r d ls
  pub spelled : IsSpelled s
  pub within : depth s ≤ d - length ls
  pub clean : (c : Complaint) → Complains r (length (bytes_before ls)) s c → ⊥

-- a key is expected
abbrev pub IsKeyExpectedIn : List Level → Type 0
IsKeyExpectedIn (a_key w left done ∷ ls) = Unit {0}
IsKeyExpectedIn _ = ⊥

-- a break is allowed in the innermost
abbrev pub MayBreak : List Level → Type 0
MayBreak (a_member Indefinite left done ∷ ls) = Unit {0}
MayBreak (a_key Indefinite left done ∷ ls) = Unit {0}
MayBreak _ = ⊥
