use Rattle.std.proofs.Common.{◌≡◌, length}
use Rattle.cbor_item.proofs.dropping.exchange_in_pair.Given as goal
use Rattle.cbor_item.specs.inner.Containers.{containers_in_pairs}

abbrev pub invariant-pairs : goal.invariant-pairs
invariant-pairs l = containers_in_pairs l.pairs.items ≡ containers_in_pairs l.initial.pairs.items

abbrev pub decreases-pairs : goal.decreases-pairs
decreases-pairs l = length l.pairs.items
