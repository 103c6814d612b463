-- The state of the tree reader: what its builder holds, in which no two keys of an open map are the same, and where each
-- open item began.
use Rattle.std.specs.Prelude.{ℕ, suc, ◌≡◌, ◌<◌, ◌++◌, List, [], ◌∷◌, length, reverse, slice_get, Option, Some, Result, OnOk, IfOk, MatchOption}
use Rattle.cbor_head.specs.Prelude.{plain, shortest_head, IsSimple, Bounds}
use Rattle.cbor_head.specs.declared.major.Major.TheVariants as majors
use Rattle.theory_values.specs.Parts.{Open, a_map, a_key, give, opened}
use Rattle.theory_values.specs.Pairs.{HasDistinctBytes}
use Rattle.cbor_machine.specs.NextEvent.{ItemEventsView}
use Rattle.cbor_builder.specs.Built.{Built, built, TakesPart, IsContainer, IsLeaf, IsRepeatedKey}
use Rattle.theory_verdicts.specs.Levels as levels
use Rattle.theory_verdicts.specs.Levels.{Level, bytes_before, ParseState, item_expected, item_full, item_whole}
use Rattle.theory_verdicts.specs.{Place.Place, Kinds.KeepsToKinds, Given.AgreesAt, Reading.IsAt, Reading.string_major}
use Rattle.cbor_tree_reader.specs.declared.item_part.ItemPart.TheVariants.{Leaf, String, Begin, Break}
use Rattle.cbor_tree_reader.specs.inner.HeldKeys.{HasKeyBytes, AreHeld, AreHeldSoFar}
use Rattle.cbor_tree_reader.specs.declared.{tree_items.TreeItems.TreeItems, item_part.ItemPart.ItemPart, key_set.KeySet.KeySet}
use Rattle.cbor_tree_reader.specs.TreeValues.{IsTreeAt}

-- ---- keys

-- no two keys of complete pairs are the same
abbrev pub HasKeysApart : Open → Type 0
HasKeysApart (a_map ps) = HasDistinctBytes ps
HasKeysApart (a_key ps k) = HasDistinctBytes ps
HasKeysApart c = Unit {0}

-- nor is a key without a value yet the same as one of these
abbrev pub AreApart : List Open → Type 0
AreApart [] = Unit {0}
AreApart (c ∷ os) = HasKeysApart c × (IsRepeatedKey (c ∷ os) → ⊥) × AreApart os

-- the same, except for a key of the innermost that is complete but not yet compared
abbrev pub AreApartSoFar : List Open → Type 0
AreApartSoFar [] = Unit {0}
AreApartSoFar (c ∷ os) = HasKeysApart c × AreApart os

-- ---- sets of keys

-- the sets of the open containers, the innermost first
abbrev pub sets : TreeItems → List KeySet
sets v = v.keys ∷ reverse v.outer.items

-- one more set, without keys
pub record AreKeysOpened (old new : List KeySet) : Type 0 where
  pub fresh : KeySet
  pub none : HasKeyBytes fresh []
  pub are : new ≡ fresh ∷ old

-- one more set if a container opens
pub record AreKeysBegun (count : ℕ) (old new : List KeySet) : Type 0 where
  pub same : count ≡ 0 → new ≡ old
  pub opened : 0 < count → AreKeysOpened old new

-- for a key that has just been completed: it is new, and in its set now; or the offset where it began is returned
abbrev pub ReturnsKey : {E : Type 0} → TreeItems → TreeItems → ℕ → Result (Option ℕ) E → Type 0
ReturnsKey old new count result =
    AreHeldSoFar (sets old) old.builder.open_levels
    → IfOk result (λ o. MatchOption o
    (AreHeld (sets new) new.builder.open_levels × (IsRepeatedKey new.builder.open_levels → ⊥))
    (λ place. IsRepeatedKey old.builder.open_levels × ((at : ℕ) → slice_get old.starts.items count ≡ Some at → place ≡ at)))

-- ---- offsets

-- where each open container began
abbrev pub HaveBegun : List ℕ → List Level → Type 0
HaveBegun xs [] = Unit {0}
HaveBegun xs (l ∷ ls) = (slice_get xs (length ls) ≡ Some (length (bytes_before ls))) × HaveBegun xs ls

abbrev pub HaveBegunIn : List ℕ → ParseState → Type 0
HaveBegunIn xs (item_expected ls) = HaveBegun xs ls
HaveBegunIn xs (item_full ls s) = HaveBegun xs ls
HaveBegunIn xs (item_whole s) = Unit {0}

-- where the item began that has just ended, if it is a container or a key
abbrev pub HasItsPlace : List ℕ → ParseState → Type 0
HasItsPlace xs (item_full ls s) = slice_get xs (length ls) ≡ Some (length (bytes_before ls))
HasItsPlace xs (item_expected (levels.a_value w left done k ∷ ls)) = slice_get xs (suc (length ls)) ≡ Some (length (bytes_before (levels.a_key w left done ∷ ls)))
HasItsPlace xs (item_expected (levels.some_value done k ∷ ls)) = slice_get xs (suc (length ls)) ≡ Some (length (bytes_before (levels.some_key done ∷ ls)))
HasItsPlace xs _ = Unit {0}

-- ---- parts

abbrev pub CanTake : Built → ItemPart → Type 0
CanTake g (Leaf m n) = IsLeaf m × (m ≡ majors.Simple → IsSimple n) × TakesPart g.open_levels
CanTake g (String is_text content) = TakesPart g.open_levels
CanTake g (Begin m n) = IsContainer m × TakesPart g.open_levels
CanTake g Break = Unit {0}

abbrev pub IsGiven : Built → ItemPart → Built → ℕ → Type 0
IsGiven g (Leaf m n) now count = (now ≡ built g.order (give (shortest_head m n) g.open_levels)) × (count ≡ 0)
IsGiven g (String is_text content) now count =
    (now ≡ built g.order (give (shortest_head (string_major is_text) (length content.items) ++ content.items) g.open_levels)) × (count ≡ 0)
IsGiven g (Begin m n) now count = (now ≡ built g.order (opened m n ∷ g.open_levels)) × (count ≡ 1)
IsGiven g Break now count = (now ≡ g) × (count ≡ 0)

-- ---- containers that end

-- `height` items are open in the builder, and the events have consumed the bytes t
pub record IsEndingAt (v : TreeItems) (b : Bounds) (e : ItemEventsView) (t : List ℕ) (height : ℕ) : Type 0 where
  pub q : Place
  pub at : IsAt b e t q
  pub open_levels : ParseState
  pub agrees : AgreesAt v.builder.order b.depth t q v.builder.open_levels height open_levels
  pub apart : AreApartSoFar v.builder.open_levels
  pub begun : HaveBegunIn v.starts.items open_levels
  pub place : HasItsPlace v.starts.items open_levels
  pub tree : IsTreeAt v.tree open_levels
  pub held : AreHeldSoFar (sets v) v.builder.open_levels
  pub kinds : v.kinds ≡ b.keys
  pub keeps : KeepsToKinds b plain t

pub record IsEnding (v : TreeItems) (height count : ℕ) : Type 0 where
  pub b : Bounds
  pub e : ItemEventsView
  pub t : List ℕ
  pub ending : IsEndingAt v b e t height
  pub counted : count ≡ e.machine.open_count

abbrev pub ReturnsEnds : {E : Type 0} → TreeItems → TreeItems → ℕ → ℕ → Result (Unit {0}) E → Type 0
ReturnsEnds old new height count result =
    (b : Bounds) (e : ItemEventsView) (t : List ℕ) → IsEndingAt old b e t height → count ≡ e.machine.open_count
    → OnOk result (IsEndingAt new b e t e.machine.open_count)
