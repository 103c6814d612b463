use Rattle.std.proofs.{Common.arith, Common.refl, lemmas.Result.err_from_is_err_and}
use Rattle.cbor_diag.proofs.PieceTexts.{run-stops, escape-put, escape-stops, raw-skipped, text-ends}
use Rattle.cbor_diag.proofs.pieces.put_escaped.Goals as goal
use Rattle.cbor_diag.proofs.Putting.{puts-nothing}
use Rattle.cbor_diag.proofs.pieces.put_escaped.Goals.{then-not-is_raw+in_ok-put+in_ok-put_escape, else-not-is_raw}

pub loop-at-init : goal.loop-at-init
loop-at-init g c = record { within = omega arith; written = puts-nothing _ c.args.out.now; raw = refl }

pub returns-in_err-put : goal.returns-in_err-put
returns-in_err-put g c = rw ((err_from_is_err_and c.from_residual.result c.from_residual.ensures.1).1) (run-stops _ _ _ c.args.out.now c.loop-at.out c.args.text.now c.loop-at.start c.loop-at.at _ c.loop-at.invariant c.in_err-put.ensures)

pub returns-in_err-put_escape : goal.returns-in_err-put_escape
returns-in_err-put_escape g c = rw ((err_from_is_err_and c.from_residual-in_err-put_escape.result c.from_residual-in_err-put_escape.ensures.1).1) (escape-stops _ _ _ _ c.args.out.now c.loop-at.out _ c.args.text.now c.loop-at.start c.loop-at.at _ c.loop-at-test.true c.loop-at.invariant c.in_ok-put.ensures c.in_err-put_escape.ensures)

pub loop-at-preserved : goal.loop-at-preserved
loop-at-preserved g c =
    elim c.if-not-is_raw.branch [
      | then-not-is_raw+in_ok-put+in_ok-put_escape w ↦ rw (w.out-is, w.writer-is, w.start-is)
          (escape-put _ _ _ _ c.args.out.now c.loop-at.out _ _ c.args.text.now c.loop-at.start c.loop-at.at c.loop-at-test.true c.loop-at.invariant w.in_ok-put.ensures w.in_ok-put_escape.ensures)
      | else-not-is_raw w ↦ rw (w.out-is, w.writer-is, w.start-is)
          (raw-skipped _ _ c.args.out.now c.loop-at.out c.args.text.now c.loop-at.start c.loop-at.at c.loop-at-test.true (c.is_raw.ensures.0 w.if-not-is_raw.false) c.loop-at.invariant)
    ]

pub returns : goal.returns
returns g c = text-ends _ _ _ c.args.out.now c.loop-at.out _ c.args.text.now c.loop-at.start c.loop-at.at _ (omega arith) c.loop-at.invariant c.put-2.ensures
