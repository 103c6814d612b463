use Rattle.cbor_head.proofs.head_laws.one_head.Goals as goal
use Rattle.cbor_head.proofs.WholeHead.{one_head}

pub returns : goal.returns
returns c = one_head
