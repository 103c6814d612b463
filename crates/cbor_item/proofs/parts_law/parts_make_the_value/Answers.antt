use Rattle.cbor_item.proofs.parts_law.parts_make_the_value.Goals as goal
use Rattle.cbor_item.proofs.ValuesMade.{makes_whole}

pub returns : goal.returns
returns c = makes_whole
