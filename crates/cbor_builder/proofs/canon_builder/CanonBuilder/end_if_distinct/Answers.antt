use Rattle.std.proofs.Common.{◌∙◌, []}
use Rattle.cbor_builder.proofs.canon_builder.CanonBuilder.end_if_distinct.Goals as goal
use Rattle.cbor_builder.proofs.CanonStates.{reported_there}

pub returns-then-not-branch : goal.returns-then-not-branch
returns-then-not-branch c =
    let e = c.in_ok-end.ensures.ends in
    reported_there c.self.inside c.args.self.now c.end.new.self _ c.first_repeat.result _ _ c.self.invariant c.self.view_is c.requires.container (e.left c.if-not-branch.true) c.if-not-branch.true e.distinct c.first_repeat.ensures.reports
    (λ i. record { order = (c.first_repeat.ensures.order ∙ e.order) i; open_levels = []; refused = c.in_ok-end.ensures.kept i })
