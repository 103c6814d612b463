use Rattle.std.proofs.Common.{sym, ap, ◌∙◌, arith}
use Rattle.theory_automaton.specs.Automaton.{break_at}
use Rattle.cbor_machine.proofs.container_stack.ContainerStack.end.Goals as goal
use Rattle.cbor_machine.{specs.State.frames_of, specs.ContainerStack.joined, proofs.ContainerStacks.ends-here}

pub returns-clause-ends : goal.returns-clause-ends
returns-clause-ends c = λ byte.
    ap (λ v. break_at (frames_of v) byte) (sym c.self.view_is)
    ∙ ends-here (joined c.self.inside.slots c.self.inside.lefts) c.self.inside.height c.self.inside.top c.level_at-self-inside.result _ (omega arith) c.level_at-self-inside.ensures c.self.invariant.rooted (sym c.if-not-is_open.false ∙ c.is_open.ensures) c.complete.ensures.state byte
