-- The state of the tree reader part by part, by the plain rules.
use Rattle.std.specs.Prelude.{ℕ, ◌≡◌, ◌<◌, ◌++◌, Bool, true, false, List, length, map, Option, Result, MatchResult}
use Rattle.std.specs.Io.KnownBytes.{Consumes}
use Rattle.cbor_head.specs.Prelude.{plain, Bounds, Spelling, spell}
use Rattle.cbor_head.specs.declared.{reason.Refusal.Refusal, event.Event.Event}
use Rattle.cbor_machine.specs.{NextEvent.ItemEventsView, NextKey.IsBasicKind}
use Rattle.theory_verdicts.specs.Kinds.{AsksForKinds, KeepsToKinds, IsKeyExpectedIn}
use Rattle.theory_verdicts.specs.Place.{at_item, done as at_end}
use Rattle.theory_verdicts.specs.Levels.{IsTaken, Level, frame, AreLevels, bytes_before, item_expected, item_whole}
use Rattle.theory_verdicts.specs.{Given.opens, Reading.IsAt, Reading.IsNextHead, RefusedAfter.IsRefusedAfter}
use Rattle.cbor_tree_reader.specs.inner.TreeItems.{AreApart, HaveBegun, sets}
use Rattle.cbor_tree_reader.specs.{declared.tree_items.TreeItems.TreeItems, inner.HeldKeys.AreHeld, TreeValues.IsTreeAt}

-- an item is expected, after the bytes t, and nothing read has a complaint
pub record IsExpectedAt (v : TreeItems) (b : Bounds) (e : ItemEventsView) (t : List ℕ) : Type 0 where
  pub ls : List Level
  pub levels : AreLevels b.depth ls
  pub taken : t ≡ bytes_before ls
  pub at : IsAt b e t (at_item (map frame ls))
  pub open_levels : v.builder.open_levels ≡ opens v.builder.order ls
  pub apart : AreApart v.builder.open_levels
  pub begun : HaveBegun v.starts.items ls
  pub held : AreHeld (sets v) v.builder.open_levels
  pub tree : IsTreeAt v.tree (item_expected ls)
  pub kinds : v.kinds ≡ b.keys
  pub keeps : KeepsToKinds b plain t

pub record IsExpectedSomewhere (v : TreeItems) (e : ItemEventsView) : Type 0 where
  pub b : Bounds
  pub t : List ℕ
  pub expected : IsExpectedAt v b e t

-- the item is complete
pub record IsWholeAt (v : TreeItems) (b : Bounds) (e : ItemEventsView) (t : List ℕ) : Type 0 where
  pub item : Spelling
  pub is : IsTaken b.depth item
  pub taken : t ≡ spell item
  pub at : IsAt b e t at_end
  pub tree : IsTreeAt v.tree (item_whole item)
  pub keeps : KeepsToKinds b plain t

abbrev pub GoesOnOrNot : Bool → TreeItems → Bounds → ItemEventsView → List ℕ → Type 0
GoesOnOrNot true v b e t = IsExpectedAt v b e t
GoesOnOrNot false v b e t = IsWholeAt v b e t

-- a part was read, and nothing read has a complaint
pub record TakesNext (more : Bool) (v : TreeItems) (b : Bounds) (e : ItemEventsView) (t : List ℕ) (from to : Option (List ℕ)) : Type 0 where
  pub bytes : List ℕ
  pub some : 0 < length bytes
  pub consumed : Consumes from to bytes
  pub agrees : GoesOnOrNot more v b e (t ++ bytes)

-- the next event is the head of the item that is expected, or a break; for a key whose kind is judged, it is the
-- head of an integer or a text
pub record IsNextExpected (b : Bounds) (ls : List Level) (t : List ℕ) (e : Event) (from to : Option (List ℕ)) (new : ItemEventsView) : Type 0 where
  pub head : IsNextHead plain b (at_item (map frame ls)) t e from to new
  pub kind : AsksForKinds b plain → IsKeyExpectedIn ls → IsBasicKind e.kind

abbrev pub ReturnsExpected : TreeItems → ItemEventsView → Option (List ℕ) → Option (List ℕ) → ItemEventsView → Result Event Refusal → Type 0
ReturnsExpected v e from to new result =
    (b : Bounds) (t : List ℕ) → (d : IsExpectedAt v b e t)
    → MatchResult result (λ event. IsNextExpected b d.ls t event from to new) (λ f. IsRefusedAfter plain b t from to f)

abbrev pub ReturnsNextPart : TreeItems → TreeItems → ItemEventsView → ItemEventsView → Option (List ℕ) → Option (List ℕ) → Result Bool Refusal → Type 0
ReturnsNextPart old new e after from to result =
    (b : Bounds) (t : List ℕ) → IsExpectedAt old b e t
    → MatchResult result (λ more. TakesNext more new b after t from to) (λ f. IsRefusedAfter plain b t from to f)

-- the remaining parts were read, or one is refused
abbrev pub ReturnsParts : TreeItems → TreeItems → ItemEventsView → ItemEventsView → Option (List ℕ) → Option (List ℕ) → Result (Unit {0}) Refusal → Type 0
ReturnsParts old new e after from to result =
    (b : Bounds) (t : List ℕ) → IsExpectedAt old b e t
    → MatchResult result (λ u. TakesNext false new b after t from to) (λ f. IsRefusedAfter plain b t from to f)
