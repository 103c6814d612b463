use Rattle.std.proofs.lemmas.Result.{err_from_is_err_and, IfErr-weaker}
use Rattle.cborc_commands.proofs.source.decode.Goals as goal
use Rattle.cborc_commands.proofs.Sources.{hex_error_end}

pub returns-in_err-push_all-clause-not_hex : goal.returns-in_err-push_all-clause-not_hex
returns-in_err-push_all-clause-not_hex c =
    let p = err_from_is_err_and c.from_residual.result c.from_residual.ensures.1 in
    rw (p.1, p.2) (λ e text spelled more none h. c.in_err-push_all.ensures.not_hex e text spelled more h)

pub returns-then-ended-clause-not_hex : goal.returns-then-ended-clause-not_hex
returns-then-ended-clause-not_hex c =
    IfErr-weaker c.finish.result _ _ (λ fault h e. hex_error_end c.args.text.now _ _ _ _ _ c.if-ended.true c.in_ok-push_all.ensures.goes_on h) c.finish.ensures.not_hex
