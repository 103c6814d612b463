-- From part to part of an item, by the plain rules, to its end.
use Rattle.std.proofs.Common.{◌≡◌, ℕ, ◌-◌, ◌<◌, true, false, Option, List, [], ◌∷◌, ◌++◌, refl, sym, ap, subst, arith, append_assoc, append-nil, length-append}
use Rattle.std.{specs.Io.KnownBytes.Consumes, proofs.KnownBytes.Consumes-nil, proofs.KnownBytes.Consumes-trans}
use Rattle.cbor_head.specs.Prelude.{Bounds, AreBounds, spell, value_of, plain}
use Rattle.cbor_head.specs.declared.order.KeyOrder.TheVariants.{Bytewise}
use Rattle.theory_values.specs.Parts.{plain as a_plain}
use Rattle.cbor_machine.specs.NextEvent.{ItemEventsView}
use Rattle.cbor_builder.specs.Built.{Built, built}
use Rattle.theory_verdicts.specs.Place.{at_item, done as at_end}
use Rattle.theory_verdicts.{specs.Kinds.KeepsToKinds, specs.Levels.item_expected, specs.Reading.IsAt, proofs.KindFrames.keeps_start, proofs.Scalars.at-as}
use Rattle.theory_verdicts.proofs.Steps.{farther}
use Rattle.cbor_tree_reader.specs.inner.ItemPrefix.{IsExpectedAt, IsWholeAt, TakesNext}
use Rattle.cbor_tree_reader.specs.{declared.tree_items.TreeItems.TreeItems, Prefix.IsPrefixRead, inner.TreeItems.AreApart, inner.TreeItems.sets}
use Rattle.cbor_tree_reader.{proofs.Prefixes.prefix-read, specs.inner.HeldKeys.AreHeld, specs.TreeValues.IsTreeAt}

-- ---- from part to part

-- some parts were taken, and an item is expected
pub record TakesSoFar (v : TreeItems) (b : Bounds) (e : ItemEventsView) (t : List ℕ) (from now : Option (List ℕ)) : Type 0 where
  pub bytes : List ℕ
  pub consumed : Consumes from now bytes
  pub expected : IsExpectedAt v b e (t ++ bytes)

pub takes-none : (v : TreeItems) (b : Bounds) (e : ItemEventsView) (t : List ℕ) (from : Option (List ℕ)) → IsExpectedAt v b e t → TakesSoFar v b e t from from
takes-none v b e t from d = record { bytes = []; consumed = Consumes-nil from; expected = subst (IsExpectedAt v b e) (sym (append-nil t)) d }

module _ (v new : TreeItems) (b : Bounds) (e after : ItemEventsView) (t : List ℕ) (from now to : Option (List ℕ)) (h : TakesSoFar v b e t from now) where
  pub takes-on : TakesNext true new b after (t ++ h.bytes) now to → TakesSoFar new b after t from to
  takes-on g = record {
    bytes = h.bytes ++ g.bytes;
    consumed = Consumes-trans from now to h.bytes g.bytes h.consumed g.consumed;
    expected = subst (IsExpectedAt new b after) (append_assoc t h.bytes g.bytes) g.agrees;
  }

  pub takes-farther : TakesNext true new b after (t ++ h.bytes) now to → after.machine.bytes - after.machine.taken < e.machine.bytes - e.machine.taken
  takes-farther g = farther b e after (t ++ h.bytes) ((t ++ h.bytes) ++ g.bytes) _ _ h.expected.at g.agrees.at (omega (arith, g.some, length-append (t ++ h.bytes) g.bytes))

  -- the last part
  pub takes-all : TakesNext false new b after (t ++ h.bytes) now to → TakesNext false new b after t from to
  takes-all g = record {
    bytes = h.bytes ++ g.bytes;
    some = omega (arith, g.some, length-append h.bytes g.bytes);
    consumed = Consumes-trans from now to h.bytes g.bytes h.consumed g.consumed;
    agrees = subst (IsWholeAt new b after) (append_assoc t h.bytes g.bytes) g.agrees;
  }

-- ---- the whole item

-- before the first part
pub expected-first : (v : TreeItems) (b : Bounds) (e : ItemEventsView) → v.builder ≡ built Bytewise (a_plain [] ∷ []) → IsTreeAt v.tree (item_expected []) → AreHeld (sets v) (a_plain [] ∷ []) → v.kinds ≡ b.keys → IsAt b e [] (at_item [])
    → IsExpectedAt v b e []
expected-first v b e is tree held asked at =
    let open_levels = ap (λ (g : Built). g.open_levels) is in
    record {
      ls = [];
      levels = tt;
      taken = refl;
      at = at;
      open_levels = open_levels;
      apart = subst AreApart (sym open_levels) (tt, (λ x. x), tt);
      begun = tt;
      held = subst (AreHeld (sets v)) (sym open_levels) held;
      tree = tree;
      kinds = asked;
      keeps = keeps_start b plain;
    }

pub prefix-whole : (v : TreeItems) (b : Bounds) (new : ItemEventsView) (from to : Option (List ℕ)) (count : ℕ) → AreBounds b → (g : TakesNext false v b new [] from to) → count ≡ new.machine.taken
    → IsPrefixRead plain b from to (value_of g.agrees.item) count
prefix-whole v b new from to count l g c =
    let x = g.agrees in
    prefix-read b from to new (value_of x.item) count l
    (record {
      item = x.item;
      spelled = x.is.spelled;
      within = omega (arith, x.is.within);
      clean = x.is.clean 0;
      taken = record { more = spell x.item; consumed = subst (Consumes from to) x.taken g.consumed; are = refl };
      value = refl;
      at = at-as b new g.bytes (spell x.item) at_end at_end x.taken refl x.at;
    })
    (subst (KeepsToKinds b plain) x.taken x.keeps) c
