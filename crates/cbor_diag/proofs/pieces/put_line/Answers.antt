use Rattle.std.proofs.{Common.◌*◌, Common.replicate, lemmas.Result.err_from_is_err_and}
use Rattle.cbor_diag.proofs.pieces.put_line.Goals as goal
use Rattle.cbor_diag.proofs.{Putting.stops-more, Putting.puts-next, PieceTexts.spaces-prefix}

pub returns-in_err-put : goal.returns-in_err-put
returns-in_err-put g c = rw ((err_from_is_err_and c.from_residual.result c.from_residual.ensures.1).1) (stops-more _ _ c.args.out.now c.args.start.now (replicate (2 * c.args.level) 32) _ c.in_err-put.ensures)

pub returns : goal.returns
returns g c =
    let prefix = spaces-prefix c.args.level c.from.result c.from.ensures c.requires in
    rw (← prefix) (puts-next _ _ _ c.args.out.now c.put.new.self _ c.args.start.now _ _ c.in_ok-put.ensures c.put-2.ensures)
