use Rattle.cbor_diag.proofs.hidden.has_hidden.Given as goal
use Rattle.cbor_diag.proofs.HiddenSteps.{NoneBefore}

abbrev pub invariant-loop-start : goal.invariant-loop-start
invariant-loop-start l = NoneBefore l.text l.start
