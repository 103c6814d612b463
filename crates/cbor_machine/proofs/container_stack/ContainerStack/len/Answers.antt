use Rattle.std.proofs.Common.{sym, ap, ◌∙◌, length, arith}
use Rattle.cbor_machine.proofs.container_stack.ContainerStack.len.Goals as goal
use Rattle.cbor_machine.{specs.ContainerStack.joined, proofs.ContainerStacks.nested-length}

pub returns : goal.returns
returns c = sym (nested-length (joined c.self.inside.slots c.self.inside.lefts) c.self.inside.height c.self.inside.top (omega (arith, c.self.invariant.rooted.space, c.self.invariant.rooted.fits))) ∙ ap length c.self.view_is
