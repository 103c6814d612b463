-- What a builder holds after some parts of an item.
use Rattle.std.specs.Prelude.{ℕ, suc, ◌≡◌, ◌-◌, ◌≤◌, ◌++◌, List, [], ◌∷◌, length, map}
use Rattle.cbor_head.specs.Prelude.{canonical, canonical_all, canonical_entries, shortest_head, Spelling, spell, spellings_count, IsSpelled, depth, value_of, values_of, entries_of}
use Rattle.cbor_head.specs.Spelling as spelling
use Rattle.cbor_head.specs.declared.{major.Major.TheVariants.Tag, order.KeyOrder.KeyOrder}
use Rattle.theory_values.specs.Parts.{IsInContainer, Open, plain as a_plain, an_array, a_map, closed, HasNoRepeats}
use Rattle.theory_values.specs.Parts as parts
use Rattle.theory_verdicts.specs.Levels.{IsClean, IsTaken, Level, a_member, a_key, a_value, some_member, some_key, some_value, tagged, frame, AreLevels, bytes_before, ParseState, item_expected, item_full, item_whole}
use Rattle.theory_verdicts.specs.Place.{Place, at_item, close, done as at_end}

-- ---- open containers

-- what a builder holds of an open container
abbrev pub level_open : KeyOrder → Level → Open
level_open o (a_member w left done) = an_array (spellings_count done) (canonical_all o (values_of done))
level_open o (a_key w left done) = a_map (canonical_entries o (entries_of done))
level_open o (a_value w left done k) = parts.a_key (canonical_entries o (entries_of done)) (canonical o (value_of k))
level_open o (some_member done) = an_array (spellings_count done) (canonical_all o (values_of done))
level_open o (some_key done) = a_map (canonical_entries o (entries_of done))
level_open o (some_value done k) = parts.a_key (canonical_entries o (entries_of done)) (canonical o (value_of k))
level_open o (tagged w n) = a_plain (shortest_head Tag n)

abbrev pub opens : KeyOrder → List Level → List Open
opens o [] = a_plain [] ∷ []
opens o (l ∷ ls) = level_open o l ∷ opens o ls

-- the pairs of a map that was given completely; of another container nothing
abbrev pub full_open : KeyOrder → Spelling → Open
full_open o (spelling.a_map w es) = a_map (canonical_entries o (entries_of es))
full_open o _ = a_plain []

-- ---- the position of a builder

-- the open item is no map
abbrev pub IsNoMap : Open → Type 0
IsNoMap (a_map ps) = ⊥
IsNoMap (parts.a_key ps k) = ⊥
IsNoMap _ = Unit {0}

-- a builder holds all pairs of a map and no key without a value; another container is no map
abbrev pub IsHeldAs : KeyOrder → Open → Spelling → Type 0
IsHeldAs o c (spelling.a_map w es) = c ≡ full_open o (spelling.a_map w es)
IsHeldAs o c _ = IsNoMap c

-- All of this container was given except its end. It has no complaint if no two of its keys are the same.
pub record IsFull (o : KeyOrder) (d : ℕ) (c : Open) (s : Spelling) : Type 0 where
  pub spelled : IsSpelled s
  pub within : depth s ≤ d
  pub clean : HasNoRepeats c → IsClean s
  pub canonical_is : closed o c ≡ canonical o (value_of s)
  pub held : IsHeldAs o c s
  pub container : (other : Open) (os : List Open) → IsInContainer (c ∷ other ∷ os)

-- after the bytes t, at this position, with these items open in a builder, within this number of containers
abbrev pub AgreesAt : KeyOrder → ℕ → List ℕ → Place → List Open → ℕ → ParseState → Type 0
AgreesAt o d t q os height (item_expected ls) =
    AreLevels d ls × (t ≡ bytes_before ls) × (q ≡ at_item (map frame ls)) × (os ≡ opens o ls) × (height ≡ length ls)
AgreesAt o d t q os height (item_full ls s) =
    AreLevels d ls × (t ≡ bytes_before ls ++ spell s) × (q ≡ close (map frame ls))
    × ((c : Open) × IsFull o (d - length ls) c s × (os ≡ c ∷ opens o ls)) × (height ≡ suc (length ls))
AgreesAt o d t q os height (item_whole s) =
    IsTaken d s × (t ≡ spell s) × (q ≡ at_end) × (os ≡ a_plain (canonical o (value_of s)) ∷ []) × (height ≡ 0)
