use Rattle.std.proofs.Common.{◌++◌, ◌∷◌, [], length, ap, ◌∙◌, arith}
use Rattle.cbor_machine.proofs.ContainerStacks.{nested-length, pushed, pushed-container_stack}
use Rattle.cbor_machine.proofs.container_stack.ContainerStack.push.Goals as goal
use Rattle.cbor_machine.specs.ContainerStack.{joined, expected_frame}

pub invariant_of-self : goal.invariant_of-self
invariant_of-self c =
    let long = nested-length (joined c.self.inside.slots c.self.inside.lefts) c.self.inside.height c.self.inside.top (omega (arith, c.self.invariant.rooted.space, c.self.invariant.rooted.fits)) in
    pushed-container_stack c.self.inside.slots c.self.inside.lefts c.self.inside.height c.self.inside.top _ c.self.invariant (omega (arith, long, ap length c.self.view_is))

pub returns : goal.returns
returns c =
    pushed c.self.inside.slots c.self.inside.lefts c.self.inside.height c.self.inside.top _ c.self.invariant
    ∙ ap (λ fs. fs ++ expected_frame c.args.expected c.args.left ∷ []) c.self.view_is
