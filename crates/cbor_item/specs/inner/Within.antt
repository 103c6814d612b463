-- How deep the remaining values of open containers nest, and what else the check finds.
use Rattle.std.specs.Prelude.{ℕ, suc, ◌+◌, ◌≡◌, ◌≤◌, List, [], ◌∷◌, length}
use Rattle.cbor_head.specs.Prelude.{Value, IsInRange, AreInRange}
use Rattle.cbor_head.specs.Value.{depth, depth_all}
use Rattle.theory_values.specs.Lists.{values_of}
use Rattle.cbor_item.specs.inner.{Texts.HasUtf8Texts, Texts.HaveUtf8Texts, Walk.size, Walk.weight}

-- an item holds no other
pub record HoldsNone (v : Value) : Type 0 where
  pub shallow : depth v ≡ 0
  pub in_range : IsInRange v
  pub texts : HasUtf8Texts v

-- it holds these
pub record Holds (v : Value) (vs : List Value) : Type 0 where
  pub deeper : depth v ≡ suc (depth_all (values_of vs))
  pub in_range : AreInRange (values_of vs) → IsInRange v
  pub texts : HaveUtf8Texts (values_of vs) → HasUtf8Texts v
  pub smaller : size v ≡ suc (suc (weight vs))

-- the remaining values of each container, the innermost first, are at most this deep, counted
-- from the outermost
abbrev pub AreWithin : ℕ → List (List Value) → Type 0
AreWithin n [] = Unit {0}
AreWithin n (vs ∷ vss) = (depth_all (values_of vs) + length vss ≤ n) × AreWithin n vss
