use Rattle.std.proofs.Common.{ℕ, ◌≤◌, List, length}
use Rattle.cbor_head.specs.Prelude.{Bounds}
use Rattle.cbor_parser.proofs.walk.close.Given as goal
use Rattle.cbor_parser.specs.{Stack.open_levels, inner.Rules.IsFilled}

abbrev pub invariant-levels : goal.invariant-levels
invariant-levels g l =
    let R = g.R.ItemRules in
    record {
      cells : l.stack.height ≤ length l.cells;
      filled : (first : g.row.R.Denot) (limits : Bounds) (input : List ℕ) → IsFilled _ _ R.fills R.passes first l.fn.rules limits input (open_levels _ l.fn.stack l.cells) l.rest → IsFilled _ _ R.fills R.passes first l.rules limits input (open_levels _ l.stack l.cells) l.rest;
    }

abbrev pub decreases-levels : goal.decreases-levels
decreases-levels g l = l.stack.height
