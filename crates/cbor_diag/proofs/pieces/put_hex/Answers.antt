use Rattle.std.proofs.{Common.arith, lemmas.Result.err_from_is_err_and}
use Rattle.cbor_diag.proofs.PieceTexts.{no-digits, digits-put, digits-stop, digits-end}
use Rattle.cbor_diag.proofs.pieces.put_hex.Goals as goal
use Rattle.cbor_diag.proofs.Putting.{puts-nothing}

pub loop-at-init : goal.loop-at-init
loop-at-init g c = record { within = omega arith; written = rw (no-digits c.args.bytes.now) (puts-nothing _ c.args.out.now) }

pub returns-in_err-put_digits : goal.returns-in_err-put_digits
returns-in_err-put_digits g c = rw ((err_from_is_err_and c.from_residual.result c.from_residual.ensures.1).1) (digits-stop _ _ _ c.args.out.now c.loop-at.out c.args.bytes.now c.loop-at.at c.min-end.result _ c.loop-at.invariant.written c.in_err-put_digits.ensures)

pub loop-at-preserved : goal.loop-at-preserved
loop-at-preserved g c =
    let min = c.min-end.ensures in
    record {
      within = omega arith;
      written = digits-put _ _ _ c.args.out.now c.loop-at.out c.put_digits.new.out c.args.bytes.now c.loop-at.at c.min-end.result (omega arith) c.loop-at.invariant.written c.in_ok-put_digits.ensures;
    }

pub returns : goal.returns
returns g c = digits-end _ _ c.args.out.now c.loop-at.out c.args.bytes.now c.loop-at.at (omega arith) c.loop-at.invariant.written
