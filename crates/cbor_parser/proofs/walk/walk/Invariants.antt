use Rattle.std.proofs.Common.{ℕ, ◌≤◌, List, length}
use Rattle.cbor_parser.proofs.walk.walk.Given as goal
use Rattle.cbor_parser.specs.Stack.{open_levels}

abbrev pub invariant-parts : goal.invariant-parts
invariant-parts g l =
    let R = g.R.ItemRules in
    record {
      cells : l.stack.height ≤ length l.cells;
      expected : (first : g.row.R.Denot) (input : List ℕ) → R.agrees first l.fn.rules l.limits input (open_levels _ l.fn.stack l.fn.cells) l.fn.start → R.agrees first l.rules l.limits input (open_levels _ l.stack l.cells) l.rest;
    }

abbrev pub decreases-parts : goal.decreases-parts
decreases-parts g l = length l.rest
