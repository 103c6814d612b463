use Rattle.std.proofs.Common.{◌≡◌, ◌+◌, take}
use Rattle.cbor_parser.proofs.repeated_key.reported_map.Given as goal
use Rattle.cbor_parser.specs.inner.OpenMaps.{map_cells}

abbrev pub invariant-loop-cell : goal.invariant-loop-cell
invariant-loop-cell l = map_cells (take l.cell-index l.cell-items) + l.left ≡ l.fn.outside
