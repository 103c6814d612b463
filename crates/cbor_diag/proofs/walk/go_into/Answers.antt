use Rattle.std.proofs.lemmas.Result.{err_from_is_err_and}
use Rattle.cbor_diag.proofs.walk.go_into.Goals as goal
use Rattle.cbor_diag.proofs.Putting.{stops-more}

pub returns-in_err-inner-clause-put : goal.returns-in_err-inner-clause-put
returns-in_err-inner-clause-put g c =
    rw ((err_from_is_err_and c.from_residual.result c.from_residual.ensures.1).1) (stops-more _ _ c.args.out.now _ _ _ c.in_err-inner.ensures.put)
