use Rattle.std.proofs.Common.{◌≡◌, ◌-◌, None}
use Rattle.cbor_listing.proofs.event_listing.listing_from.Given as goal
use Rattle.cbor_listing.proofs.Listed.{HasListed}

abbrev pub invariant-lines : goal.invariant-lines
invariant-lines g l =
    (l.events.machine.depth ≡ l.fn.limits.depth) × (l.events.machine.bytes ≡ l.fn.limits.bytes) × (l.events.refusal ≡ None)
    × HasListed l.fn.start l.events.machine (g.R.Read.remaining l.initial.reader) (g.R.Read.remaining l.reader) (g.W.Write.contents l.initial.writer) (g.W.Write.contents l.writer) l.written

abbrev pub decreases-lines : goal.decreases-lines
decreases-lines g l = l.events.machine.bytes - l.events.machine.taken
