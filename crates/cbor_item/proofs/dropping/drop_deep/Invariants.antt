use Rattle.std.proofs.Common.{◌+◌, ◌*◌}
use Rattle.cbor_item.proofs.dropping.drop_deep.Given as goal
use Rattle.cbor_item.specs.inner.Containers.{containers}

-- fewer in all, or the same number and fewer in the inner one
abbrev pub decreases-items : goal.decreases-items
decreases-items l =
    let all = containers l.inner + containers l.outer in all * all + containers l.inner
