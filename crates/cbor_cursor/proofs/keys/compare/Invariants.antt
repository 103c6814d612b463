use Rattle.std.proofs.Common.{◌≡◌, ℕ, List, length, drop, ◌≤◌, ◌-◌}
use Rattle.std.specs.{Ordering.nat_cmp, Cmp.Lexicographic.slice_cmp}
use Rattle.cbor_cursor.proofs.keys.compare.Given as goal

pub record IsComparing (a b : List ℕ) (at : ℕ) : Type 0 where
  pub rest : slice_cmp nat_cmp (drop at a) (drop at b) ≡ slice_cmp nat_cmp a b
  pub first : at ≤ length a
  pub second : at ≤ length b

abbrev pub invariant-loop-at : goal.invariant-loop-at
invariant-loop-at l = IsComparing l.a l.b l.at

abbrev pub decreases-loop-at : goal.decreases-loop-at
decreases-loop-at l = length l.a - l.at
