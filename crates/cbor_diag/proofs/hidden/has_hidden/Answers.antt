use Rattle.std.proofs.Common.{sym}
use Rattle.cbor_diag.proofs.hidden.has_hidden.Goals as goal
use Rattle.cbor_diag.proofs.HiddenSteps.{none_yet}

pub loop-start-preserved : goal.loop-start-preserved
loop-start-preserved c = none_yet c.args.text.now c.loop-start.start c.loop-start-test.true c.loop-start.invariant (sym c.if-begins_hidden.ensures)
