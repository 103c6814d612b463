use Rattle.std.proofs.Common.{◌≡◌, ◌-◌, drop, Some}
use Rattle.cbor_listing.proofs.annotated_listing.annotated.Given as goal
use Rattle.cbor_listing.proofs.Annotating.{HasAnnotated}

abbrev pub invariant-lines : goal.invariant-lines
invariant-lines g l =
    (l.machine.depth ≡ l.fn.limits.depth) × (l.machine.bytes ≡ l.fn.limits.bytes)
    × HasAnnotated l.fn.start l.machine l.fn.bytes (Some (drop l.machine.taken l.fn.bytes)) (g.W.Write.contents l.initial.writer) (g.W.Write.contents l.writer) l.written l.context

abbrev pub decreases-lines : goal.decreases-lines
decreases-lines g l = l.machine.bytes - l.machine.taken
