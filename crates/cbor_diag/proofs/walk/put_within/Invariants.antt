use Rattle.std.proofs.Common.{◌++◌, ◌≤◌, length, reverse, take}
use Rattle.cbor_diag.specs.inner.Levels.{AreAllShallow, HasLeft, all_left, following, rest_of}
use Rattle.cbor_diag.proofs.walk.put_within.Given as goal

abbrev pub invariant-levels : goal.invariant-levels
invariant-levels g l = record {
  left : HasLeft 0 (g.W.Write.contents l.fn.writer) (g.W.Write.contents l.writer) l.fn.out l.out (rest_of g.N.Node.value l.layout l.fn.level ++ following g.N.Node.value l.layout (reverse (take l.fn.height l.fn.cells))) (all_left g.N.Node.value l.layout l.innermost (reverse (take l.height l.cells)));
  height : l.height ≤ length l.cells;
  shallow : AreAllShallow g.N.Node.value l.innermost (reverse (take l.height l.cells));
}

abbrev pub decreases-levels : goal.decreases-levels
decreases-levels g l = length (all_left g.N.Node.value l.layout l.innermost (reverse (take l.height l.cells)))
