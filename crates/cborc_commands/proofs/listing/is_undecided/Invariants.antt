use Rattle.std.proofs.Common.{◌-◌, length}
use Rattle.cborc_commands.proofs.listing.is_undecided.Given as goal
use Rattle.cborc_commands.proofs.Undecided.{IsWithinBytes}

abbrev pub invariant-events : goal.invariant-events
invariant-events l = IsWithinBytes l.fn.limits l.fn.bytes l.machine

abbrev pub decreases-events : goal.decreases-events
decreases-events l = length l.fn.bytes - l.machine.taken
