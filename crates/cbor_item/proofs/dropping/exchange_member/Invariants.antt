use Rattle.std.proofs.Common.{◌≡◌, length}
use Rattle.cbor_item.proofs.dropping.exchange_member.Given as goal
use Rattle.cbor_item.specs.inner.Containers.{containers_in}

abbrev pub invariant-items : goal.invariant-items
invariant-items l = containers_in l.items.items ≡ containers_in l.initial.items.items

abbrev pub decreases-items : goal.decreases-items
decreases-items l = length l.items.items
