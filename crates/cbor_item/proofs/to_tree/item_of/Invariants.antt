use Rattle.std.proofs.Common.{◌≡◌, length}
use Rattle.cbor_item.proofs.to_tree.item_of.Given as goal
use Rattle.cbor_item.{specs.OpenValues.open_levels, specs.inner.Rest.left_of_all, specs.inner.TreeWalk.parts_left, proofs.TreeWalk.Walks}

abbrev pub invariant-nodes : goal.invariant-nodes
invariant-nodes g l = Walks (g.N.Node.value l.node) (left_of_all g.N.Node.value l.rest l.outer.items) (open_levels l.builder) × (l.memory ≡ l.fn.memory)

abbrev pub decreases-nodes : goal.decreases-nodes
decreases-nodes g l = length (parts_left (left_of_all g.N.Node.value l.rest l.outer.items))
