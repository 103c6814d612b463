use Rattle.std.proofs.Common.{◌∙◌}
use Rattle.cbor_head.specs.Prelude.{canonical}
use Rattle.cbor_builder.proofs.canon_builder.CanonBuilder.finish.Goals as goal
use Rattle.cbor_builder.proofs.{CanonStates.whole_bytes, PartsMade.builds_whole}

pub returns-clause-bytes : goal.returns-clause-bytes
returns-clause-bytes c bs e = c.into_vec.ensures ∙ whole_bytes c.self.inside c.args.self bs c.self.invariant c.self.view_is e

pub returns-clause-canonical : goal.returns-clause-canonical
returns-clause-canonical c v ps m e =
    let w = c.args.self in c.into_vec.ensures ∙ whole_bytes c.self.inside w (canonical w.order v) c.self.invariant c.self.view_is (e ∙ builds_whole w.order v ps m)
