use Rattle.std.proofs.Common.{◌≡◌, ◌≤◌, length}
use Rattle.theory_automaton.specs.Automaton.{close}
use Rattle.cbor_machine.specs.ContainerStack.{joined, nested, IsContainerStack}
use Rattle.cbor_machine.proofs.container_stack.ContainerStack.complete.Given as goal
use Rattle.cbor_machine.specs.State.{frames_of}

abbrev pub invariant-levels : goal.invariant-levels
invariant-levels l = record {
  container_stack : IsContainerStack l.self-inside.slots l.self-inside.lefts l.self-inside.height l.self-inside.top;
  same : close (frames_of (nested (joined l.self-inside.slots l.self-inside.lefts) l.self-inside.height l.self-inside.top)) ≡ close (frames_of l.fn.self);
  fewer : l.self-inside.height ≤ length l.fn.self;
}

abbrev pub decreases-levels : goal.decreases-levels
decreases-levels l = l.self-inside.height
