use Rattle.std.proofs.lemmas.Result.{err_from_is_err_and}
use Rattle.cborc_commands.proofs.requests.perform_request.Goals as goal

pub returns-in_err-canon_sequence-in-Canon-clause-fault : goal.returns-in_err-canon_sequence-in-Canon-clause-fault
returns-in_err-canon_sequence-in-Canon-clause-fault g c =
    let p = err_from_is_err_and c.from_residual-in_err-canon_sequence-in-Canon.result c.from_residual-in_err-canon_sequence-in-Canon.ensures.1 in
    rw (p.1, p.2) (rw c.in-Canon.is (rw c.if-request-4.true c.in_err-canon_sequence-in-Canon.ensures.fault))
