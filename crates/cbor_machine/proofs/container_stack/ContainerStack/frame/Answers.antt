use Rattle.std.proofs.Common.{Some, length, ap, ◌∙◌, sym, arith, slice_get}
use Rattle.cbor_machine.proofs.container_stack.ContainerStack.frame.Goals as goal
use Rattle.cbor_machine.{specs.ContainerStack.joined, proofs.ContainerStacks.nested-length, proofs.ContainerStacks.frame-innermost}

pub returns-else-len-place : goal.returns-else-len-place
returns-else-len-place c =
    let long = nested-length (joined c.self.inside.slots c.self.inside.lefts) c.self.inside.height c.self.inside.top (omega (arith, c.self.invariant.rooted.space, c.self.invariant.rooted.fits)) in
    ap (λ fs. slice_get fs c.args.place) (sym c.self.view_is)
    ∙ frame-innermost (joined c.self.inside.slots c.self.inside.lefts) c.self.inside.height c.args.place c.self.inside.top (omega (arith, long, ap length c.self.view_is)) (omega (arith, c.self.invariant.rooted.space, c.self.invariant.rooted.fits))
    ∙ ap Some (sym c.frame-else-len-place.ensures)
