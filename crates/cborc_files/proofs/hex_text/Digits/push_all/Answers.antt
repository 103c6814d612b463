use Rattle.std.proofs.{Common.arith, Common.below_more, lemmas.Result.err_from_is_err_and, lemmas.List.take_all}
use Rattle.cborc_files.proofs.Spelled.{spells_none, spells_more, hex_error_after}
use Rattle.cborc_files.proofs.Places.{stays, moves_more, other_after}
use Rattle.cborc_files.proofs.hex_text.Digits.push_all.Goals as goal

pub text-init : goal.text-init
text-init c = record { spelled = spells_none _ _; place = stays _; digits = λ k below. absurd (omega arith) }

pub text-preserved : goal.text-preserved
text-preserved c = record {
  spelled = spells_more c.args.text.now _ (omega (arith, c.text-test.true)) _ _ _ _ c.text.invariant.spelled _ _ c.in_ok-push.ensures.goes_on;
  place = moves_more c.args.text.now _ (omega (arith, c.text-test.true)) _ _ _ c.text.invariant.place c.in_ok-push.ensures.place;
  digits = below_more _ _ c.text.invariant.digits c.in_ok-push.ensures.digit;
}

pub returns-in_err-push-clause-not_hex : goal.returns-in_err-push-clause-not_hex
returns-in_err-push-clause-not_hex c =
    let p = err_from_is_err_and c.from_residual.result c.from_residual.ensures.1 in
    rw (p.1, p.2) (λ e. hex_error_after c.args.text.now _ (omega (arith, c.text-test.true)) _ _ _ _ c.text.invariant.spelled (c.in_err-push.ensures.not_hex e))

pub returns-in_err-push-clause-other : goal.returns-in_err-push-clause-other
returns-in_err-push-clause-other c =
    let p = err_from_is_err_and c.from_residual.result c.from_residual.ensures.1 in
    rw (p.1, p.2)
    (other_after c.args.text.now _ (omega (arith, c.text-test.true)) _ _ _ c.text.invariant.place c.text.invariant.digits c.in_err-push.ensures.other)

pub returns-clause-place : goal.returns-clause-place
returns-clause-place c = rw (take_all c.text.byte-index c.args.text.now c.text-test.false) at c.text.invariant.place
