use Rattle.std.proofs.Common.{◌≤◌, ◌↔◌, length, take}
use Rattle.std.specs.List.{AllByRecursion}
use Rattle.cbor_head.specs.{Prelude.IsInRange, Prelude.AreInRange, Value.depth}
use Rattle.theory_values.specs.Lists.{values_of}
use Rattle.cbor_item.proofs.within.is_nested_in.Given as goal
use Rattle.cbor_item.specs.{inner.Texts.HasUtf8Texts, inner.Texts.HaveUtf8Texts, View.view, inner.Rest.left_of_all, inner.Walk.weight_of_all}
use Rattle.cbor_item.specs.inner.Within.{AreWithin}

abbrev pub invariant-items : goal.invariant-items
invariant-items l = record {
  height : l.height ≤ length l.cells;
  within : (depth (view l.item) ≤ length l.cells) ↔ AreWithin (length l.cells) (left_of_all view l.rest (take l.height l.cells));
  in_range : AllByRecursion (λ vs. AreInRange (values_of vs)) (left_of_all view l.rest (take l.height l.cells)) → IsInRange (view l.item);
  texts : AllByRecursion (λ vs. HaveUtf8Texts (values_of vs)) (left_of_all view l.rest (take l.height l.cells)) → HasUtf8Texts (view l.item);
}

abbrev pub decreases-items : goal.decreases-items
decreases-items l = weight_of_all (left_of_all view l.rest (take l.height l.cells))
