use Rattle.std.proofs.Common.{◌≡◌, ℕ, List}
use Rattle.cbor_head.specs.Prelude.{Bounds}
use Rattle.cbor_machine.specs.NextEvent.{ItemEventsView}
use Rattle.cbor_tree_reader.proofs.tree_items.TreeItems.end_full.Given as goal
use Rattle.cbor_tree_reader.specs.inner.TreeItems.{IsEndingAt}

abbrev pub invariant-full : goal.invariant-full
invariant-full l = (l.self.starts ≡ l.fn.self.starts)
    × ((b : Bounds) (e : ItemEventsView) (t : List ℕ) → IsEndingAt l.fn.self b e t l.fn.height → l.fn.«open» ≡ e.machine.open_count
    → IsEndingAt l.self b e t l.left)
    × (l.memory ≡ l.fn.memory)

abbrev pub decreases-full : goal.decreases-full
decreases-full l = l.left
