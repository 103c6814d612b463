use Rattle.std.proofs.Common.{◌≡◌, ◌≤◌, drop, take, length}
use Rattle.cbor_cursor.proofs.index.close_items.Given as goal
use Rattle.cbor_cursor.specs.inner.Indexing.{closed}

abbrev pub invariant-loop-i : goal.invariant-loop-i
invariant-loop-i l = record {
  size : length l.items ≡ length l.fn.items;
  within : l.i ≤ length l.items;
  prefix : take l.i l.items ≡ take l.i l.fn.items;
  closed : drop l.i l.items ≡ closed (drop l.i l.fn.items);
}

abbrev pub decreases-loop-i : goal.decreases-loop-i
decreases-loop-i l = l.i
