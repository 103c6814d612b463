use Rattle.std.proofs.Common.{◌≡◌}
use Rattle.cbor_item.proofs.encoding.encode_distinct.Given as goal
use Rattle.cbor_item.{specs.inner.Rest.left_of_all, specs.inner.Walk.weight_of_all, proofs.Walk.Walks}

abbrev pub invariant-nodes : goal.invariant-nodes
invariant-nodes g l = Walks l.fn.order (g.N.Node.value l.node) (left_of_all g.N.Node.value l.rest l.outer.items) l.builder × (l.memory ≡ l.fn.memory)

abbrev pub decreases-nodes : goal.decreases-nodes
decreases-nodes g l = weight_of_all (left_of_all g.N.Node.value l.rest l.outer.items)
