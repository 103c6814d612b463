use Rattle.std.proofs.Common.{◌≡◌, ◌-◌, ◌<◌, ◌≤◌, ℕ, List, ◌++◌, length, Option}
use Rattle.theory_automaton.specs.Trace.{Mark}
use Rattle.cbor_machine.specs.{MachineView.MachineView, Machine.IsIdle, Machine.Represents, NextEvent.AgreesBetween, Calls.HasRead}
use Rattle.cbor_events.proofs.item_events.reading.next_event.Given as goal

abbrev pub invariant-reads : goal.invariant-reads
invariant-reads g l = record {
  read : (was : MachineView) (from : Option (List ℕ)) (t : List ℕ) (ms : List Mark) → AgreesBetween was t ms → l.fn.machine.depth ≡ was.depth → HasRead from (g.R.Read.remaining l.fn.reader) l.fn.machine t ms
      → HasRead from (g.R.Read.remaining l.reader) l.machine t ms;
  ran : (t : List ℕ) (ms : List Mark) → Represents l.fn.machine t ms → (bs : List ℕ) × Represents l.machine (t ++ bs) ms;
  depth : l.machine.depth ≡ l.fn.machine.depth;
  bytes : l.machine.bytes ≡ l.fn.machine.bytes;
  within : l.machine.open_count ≤ l.machine.depth;
  idle : IsIdle l.fn.machine → IsIdle l.machine × (l.reader ≡ l.fn.reader);
  space : 0 < length l.buffer;
  same : length l.buffer ≡ length l.fn.buffer;
}

abbrev pub decreases-reads : goal.decreases-reads
decreases-reads g l = l.machine.bytes - l.machine.taken
