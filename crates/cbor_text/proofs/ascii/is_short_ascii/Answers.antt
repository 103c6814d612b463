use Rattle.std.proofs.Common.{◌-◌, arith}
use Rattle.cbor_text.proofs.ascii.is_short_ascii.Goals as goal
use Rattle.cbor_text.proofs.AsciiMasks.{short_ascii}

pub returns-in-Some : goal.returns-in-Some
returns-in-Some c = λ e. short_ascii c.args.prefix.now c.in-Some.chunk.now c.args.count (c.args.count - 1) (omega arith) (omega arith) c.in-Some.ensures.cases.same (c.is_ascii_prefix.ensures.0 e)
