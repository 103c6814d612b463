use Rattle.std.proofs.Common.{◌<◌, arith}
use Rattle.cbor_machine.proofs.take_byte.take_byte.Goals as goal
use Rattle.cbor_machine.proofs.Frames.{space_now, space_next}

pub overflow_mul-n : goal.overflow_mul-n
overflow_mul-n c =
    let p = rw c.in-Head.is at c.requires.fits in
    omega (arith, space_now c.in-Head.argument c.in-Head.left p.0)

pub overflow_add-n : goal.overflow_add-n
overflow_add-n c =
    let p = rw c.in-Head.is at c.requires.fits in
    omega (arith, space_now c.in-Head.argument c.in-Head.left p.0)

pub returns-else-left-eq0-clause-fits : goal.returns-else-left-eq0-clause-fits
returns-else-left-eq0-clause-fits c =
    let p = rw c.in-Head.is at c.requires.fits in
    let small : c.from.result < 256 = omega arith in
    let some : 0 < c.in-Head.left = omega arith in
    (space_next c.in-Head.argument c.in-Head.left c.from.result small some p.0, p.1, p.2)
