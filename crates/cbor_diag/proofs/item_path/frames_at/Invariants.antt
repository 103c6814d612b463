use Rattle.std.proofs.Common.{◌≤◌, ◌≡◌}
use Rattle.cbor_diag.proofs.item_path.frames_at.Given as goal

abbrev pub invariant-events : goal.invariant-events
invariant-events l = record {
  depth : l.events.events.machine.depth ≡ l.fn.limits.depth;
  within : l.open ≤ l.fn.limits.depth;
}
