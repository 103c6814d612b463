use Rattle.std.proofs.{Common.inl, Common.inr, lemmas.Result.err_from_is_err_and}
use Rattle.cborc_commands.proofs.texts.canonical_text.Goals as goal
use Rattle.cborc_commands.{specs.inner.NotWritten.IsNoText, proofs.Faults.refusal_is}

pub returns-in_err-canonical-clause-fault : goal.returns-in_err-canonical-clause-fault
returns-in_err-canonical-clause-fault c =
    let p = err_from_is_err_and c.from_residual.result c.from_residual.ensures.1 in
    rw (p.1) (refusal_is (IsNoText c.args.limits c.args.order c.args.bytes.now) _ p.0 p.2 (λ own. (c.in_err-canonical.ensures.outcome, own)) (λ other. inl (_, c.in_err-canonical.ensures.outcome, other)))

pub returns-in-Err-clause-fault : goal.returns-in-Err-clause-fault
returns-in-Err-clause-fault c = inr (_, c.in_ok-canonical.ensures.outcome)
