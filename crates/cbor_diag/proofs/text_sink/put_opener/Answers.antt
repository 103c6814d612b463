use Rattle.std.proofs.{Common.codes, Common.decimal, lemmas.Result.err_from_is_err_and}
use Rattle.cbor_diag.proofs.text_sink.put_opener.Goals as goal
use Rattle.cbor_diag.proofs.{Putting.stops-more, Putting.puts-next, TextGiven.opener-other}

pub returns-in_err-put_number-in_default : goal.returns-in_err-put_number-in_default
returns-in_err-put_number-in_default g c =
    rw ((err_from_is_err_and c.from_residual.result c.from_residual.ensures.1).1, opener-other c.args.major c.args.number c.in_default.not-Array c.in_default.not-Map)
    (stops-more _ _ c.args.out.now (decimal c.args.number) (codes "(") _ c.in_err-put_number-in_default.ensures)

pub returns-in_ok-put_number-in_default : goal.returns-in_ok-put_number-in_default
returns-in_ok-put_number-in_default g c =
    rw (opener-other c.args.major c.args.number c.in_default.not-Array c.in_default.not-Map)
    (puts-next _ _ _ c.args.out.now c.put_number.new.out _ (decimal c.args.number) (codes "(") _ c.in_ok-put_number-in_default.ensures c.put-in_default.ensures)
