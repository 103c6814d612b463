use Rattle.std.proofs.Common.{refl}
use Rattle.cbor_diag.proofs.surroundings.write_digits.Goals as goal
use Rattle.cbor_diag.proofs.SurroundingLines.{digits_more}

pub loop-byte-preserved : goal.loop-byte-preserved
loop-byte-preserved g c =
    digits_more c.args.bytes.now c.loop-byte.byte-index _ _ _ c.loop-byte-test.true refl c.digit.ensures c.digit-in-loop-byte.ensures _ _ _ c.loop-byte.invariant
    c.in_ok-write_all.ensures.bytes
