use Rattle.std.proofs.Common.{◌≡◌, ℕ, List, ◌-◌}
use Rattle.cbor_head.specs.Prelude.{Bounds}
use Rattle.cbor_tree_reader.proofs.item_reader.read_parts.Given as goal
use Rattle.cbor_tree_reader.{specs.inner.ItemPrefix.IsExpectedAt, proofs.PlainSteps.TakesSoFar}

abbrev pub invariant-parts : goal.invariant-parts
invariant-parts g l = ((b : Bounds) (t : List ℕ) → IsExpectedAt l.fn.items b l.fn.events t → TakesSoFar l.items b l.events t (g.R.Read.remaining l.fn.reader) (g.R.Read.remaining l.reader))
    × (l.memory ≡ l.fn.memory)

abbrev pub decreases-parts : goal.decreases-parts
decreases-parts g l = l.events.machine.bytes - l.events.machine.taken
