use Rattle.std.proofs.{Common.◌∙◌, lemmas.Result.on_ok_weaker}
use Rattle.cbor_diag.proofs.surroundings.write_surroundings.Goals as goal
use Rattle.cbor_diag.proofs.SurroundingLines.{surroundings_written}

pub returns : goal.returns
returns g c =
    on_ok_weaker c.write_all-3.result
    (surroundings_written c.args.bytes.now c.args.place c.min-place.result c.min-before.result c.min.result c.min-place.ensures c.min-before.ensures c.min.ensures
    _ _ _ _ _ _ _ c.as_bytes-label.result.now (c.as_bytes-label.ensures.value ∙ c.in_ok-label.ensures.ok)
    c.in_ok-write_all.ensures.bytes c.in_ok-write_digits.ensures c.in_ok-write_all-2.ensures.bytes c.in_ok-write_blanks.ensures c.in_ok-write_blanks-2.ensures)
    c.write_all-3.ensures.bytes
