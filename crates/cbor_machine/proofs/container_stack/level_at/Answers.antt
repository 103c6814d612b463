use Rattle.cbor_machine.proofs.container_stack.level_at.Goals as goal
use Rattle.cbor_machine.proofs.ContainerStacks.{joined-at}

pub returns : goal.returns
returns c = joined-at c.args.slots.now c.args.lefts.now c.args.place _ c.requires.slots c.requires.lefts
