use Rattle.std.proofs.Common.{ℕ, List, length, drop, ◌≤◌, ◌++◌}
use Rattle.cbor_head.specs.{Value.Entries, declared.order.KeyOrder.KeyOrder}
use Rattle.cbor_cursor.proofs.lookup.value_start.Given as goal
use Rattle.cbor_cursor.{specs.inner.Pairs.ArePairsOf, proofs.PairsLeft.ArePairs}

pub record IsSearching (bytes key : List ℕ) (offset count at left : ℕ) : Type 0 where
  pub pairs : (o : KeyOrder) (es : Entries) (rest : List ℕ) → ArePairsOf o es count (drop offset bytes) rest → ArePairs o es key left (drop at bytes) rest
  pub ends : at ≤ length bytes

abbrev pub invariant-loop-left : goal.invariant-loop-left
invariant-loop-left l = IsSearching l.fn.bytes (l.head ++ l.payload) l.fn.offset l.fn.count l.at l.left

abbrev pub decreases-loop-left : goal.decreases-loop-left
decreases-loop-left l = l.left
