use Rattle.std.proofs.Common.{◌+◌, ◌*◌, ◌↔◌, ◌≤◌, drop, length, slice_range}
use Rattle.cbor_head.specs.Prelude.{SameValues, Covered, AnyEntry, Same, AreValid}
use Rattle.cbor_item.proofs.sameness.+same.Given as goal
use Rattle.cbor_item.specs.inner.Walk.{size, size_all, size_entries}
use Rattle.cbor_item.specs.Nodes.{entries_in, values_in}

-- the arguments of a call get smaller
abbrev pub decreases-is_same : goal.decreases-is_same
decreases-is_same g l = 4 * size (g.N.Node.value l.a.now)

abbrev pub decreases-are_same : goal.decreases-are_same
decreases-are_same g l = 4 * size_all (values_in g.N.Node.value l.xs.now) + 1

abbrev pub decreases-is_covered : goal.decreases-is_covered
decreases-is_covered g l = 4 * size_entries (entries_in g.N.Node.value l.xs.now) + 3

abbrev pub decreases-find : goal.decreases-find
decreases-find g l = 4 * (size (g.N.Node.value l.key.now) + size (g.N.Node.value l.value.now)) + 2

abbrev pub decreases-find_between : goal.decreases-find_between
decreases-find_between g l = 4 * (size (g.N.Node.value l.key.now) + size (g.N.Node.value l.value.now)) + 1

-- the rest decides the whole
abbrev pub invariant-are_same-loop-i : goal.invariant-are_same-loop-i
invariant-are_same-loop-i g l = record {
  left : SameValues (values_in g.N.Node.value l.xs) (values_in g.N.Node.value l.ys) ↔ SameValues (values_in g.N.Node.value (drop l.i l.xs)) (values_in g.N.Node.value (drop l.i l.ys));
  these : AreValid (values_in g.N.Node.value (drop l.i l.xs));
  those : AreValid (values_in g.N.Node.value (drop l.i l.ys));
}

abbrev pub invariant-is_covered-loop-pair : goal.invariant-is_covered-loop-pair
invariant-is_covered-loop-pair g l = record {
  left : Covered (entries_in g.N.Node.value l.xs) (entries_in g.N.Node.value l.ys) ↔ Covered (entries_in g.N.Node.value (drop l.pair-index l.xs)) (entries_in g.N.Node.value l.ys);
  start : l.start ≤ length l.ys;
}

abbrev pub invariant-find_between-loop-place : goal.invariant-find_between-loop-place
invariant-find_between-loop-place g l =
    AnyEntry (Same (g.N.Node.value l.key)) (Same (g.N.Node.value l.value)) (entries_in g.N.Node.value (slice_range l.ys l.from l.to))
    ↔ AnyEntry (Same (g.N.Node.value l.key)) (Same (g.N.Node.value l.value)) (entries_in g.N.Node.value (slice_range l.ys l.place l.to))
