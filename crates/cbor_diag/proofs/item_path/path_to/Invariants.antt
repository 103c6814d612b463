use Rattle.std.proofs.Common.{◌≤◌, length}
use Rattle.cbor_diag.proofs.item_path.path_to.Given as goal

abbrev pub invariant-loop-frame : goal.invariant-loop-frame
invariant-loop-frame l = length l.way.items ≤ l.frame-index
