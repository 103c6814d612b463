use Rattle.std.proofs.Common.{◌≡◌, ◌≤◌, ◌+◌, ◌-◌, drop, length, take}
use Rattle.naltvigo.proofs.streaming.take_events.Given as goal
use Rattle.naltvigo.proofs.{Staying.HasBegun, Reported.HasGiven}

abbrev pub invariant-events : goal.invariant-events
invariant-events l = record {
  used : l.used ≤ length l.input;
  reported : l.reported ≤ length l.events;
  given : HasGiven l.fn.machine l.machine (take l.used l.input) (take l.reported l.events);
  unreported : drop l.reported l.events ≡ drop l.reported l.fn.events;
  unrefused : l.refusal ≡ l.fn.refusal;
  taken : l.machine.taken ≡ l.fn.machine.taken + l.used;
  progress : l.reported ≤ l.used;
  begun : HasBegun l.fn.machine l.machine l.used l.reported;
}

abbrev pub decreases-events : goal.decreases-events
decreases-events l = length l.events - l.reported
