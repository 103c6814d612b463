use Rattle.std.proofs.Common.{◌∙◌, arith}
use Rattle.cbor_builder.proofs.span.rearrange.Goals as goal
use Rattle.cbor_builder.proofs.Slices.{moved_down}

pub returns-clause-ordered : goal.returns-clause-ordered
returns-clause-ordered c = c.close_up.ensures ∙ moved_down c.args.out.now _ c.gather.new.out c.args.start c.len-len.result c.len-len.ensures (omega (arith, c.requires.begins, c.len-len.ensures)) c.in_ok-gather.ensures.gathered
