use Rattle.std.proofs.Common.{take}
use Rattle.cbor_diag.proofs.path_text.write_path.Given as goal
use Rattle.cbor_diag.proofs.PathSteps.{HasWritten}

abbrev pub invariant-loop-step : goal.invariant-loop-step
invariant-loop-step g l = HasWritten l.item (take l.step-index l.way) (g.W.Write.contents l.fn.writer) (g.W.Write.contents l.writer)
