use Rattle.std.proofs.Common.{ℕ, List, length, drop, ◌≤◌, ◌-◌, ◌↔◌}
use Rattle.cbor_cursor.proofs.skip.items_end.Given as goal
use Rattle.cbor_cursor.specs.WellFormed.{BeginsWithItems}

pub record IsSkipping (bytes : List ℕ) (offset count end left : ℕ) : Type 0 where
  pub items : (rest : List ℕ) → BeginsWithItems count (drop offset bytes) rest ↔ BeginsWithItems left (drop end bytes) rest
  pub starts : offset ≤ end
  pub ends : end ≤ length bytes

abbrev pub invariant-loop-left : goal.invariant-loop-left
invariant-loop-left l = IsSkipping l.fn.bytes l.fn.offset l.fn.count l.end l.left

abbrev pub decreases-loop-left : goal.decreases-loop-left
decreases-loop-left l = length l.bytes - l.end
