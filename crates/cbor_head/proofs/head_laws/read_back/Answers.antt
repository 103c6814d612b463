use Rattle.std.proofs.Common.{◌∙◌}
use Rattle.cbor_head.proofs.head_laws.read_back.Goals as goal

pub returns : goal.returns
returns c = c.read.ensures.each c.args.head.now.major c.args.head.now.width c.args.head.now.argument c.bytes.ensures.head (c.deref.ensures.0 ∙ c.bytes.ensures.spelled)
