use Rattle.std.proofs.Common.{◌≡◌, ◌+◌, drop}
use Rattle.cbor_cursor.proofs.index.close.Given as goal
use Rattle.cbor_cursor.specs.inner.Indexing.{end_of, entries_in}

abbrev pub invariant-loop-left : goal.invariant-loop-left
invariant-loop-left l = record {
  end : end_of l.left l.end (drop l.next l.later) ≡ end_of l.item.end l.item.content l.later;
  next : l.next + entries_in l.left (drop l.next l.later) ≡ entries_in l.item.end l.later;
}

abbrev pub decreases-loop-left : goal.decreases-loop-left
decreases-loop-left l = l.left
