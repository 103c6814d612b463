use Rattle.std.proofs.Common.{◌≡◌, ◌≤◌, ◌+◌, [], length, take, false}
use Rattle.theory_automaton.specs.Automaton.{run, reached}
use Rattle.cbor_machine.specs.State.{state_of, IsFit, IsSettled, head_left, is_done}
use Rattle.cbor_machine.proofs.feed.walk_bytes.Given as goal

abbrev pub invariant-loop-i : goal.invariant-loop-i
invariant-loop-i l = record {
  ran : run l.depth (state_of l.fn.position l.fn.container_stack) (take l.i l.input) ≡ reached (state_of l.position l.container_stack) [];
  within : length l.container_stack ≤ l.depth;
  fits : IsFit l.depth l.container_stack l.position;
  began : IsSettled l.container_stack l.position → (l.i ≡ 0) × IsSettled l.fn.container_stack l.fn.position;
  going : is_done l.fn.position ≡ false → is_done l.position ≡ false;
  left : head_left l.fn.position ≤ l.i + head_left l.position;
}
