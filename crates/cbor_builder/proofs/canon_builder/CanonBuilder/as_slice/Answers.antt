use Rattle.std.proofs.Common.{◌∙◌}
use Rattle.cbor_builder.proofs.canon_builder.CanonBuilder.as_slice.Goals as goal
use Rattle.cbor_builder.proofs.CanonStates.{whole_bytes}

pub returns : goal.returns
returns c bs e = c.as_slice.ensures ∙ whole_bytes c.self.inside c.args.self.now bs c.self.invariant c.self.view_is e
