use Rattle.cbor_diag.proofs.walk.put_deeper.Goals as goal
use Rattle.cbor_diag.proofs.Leaving.{left-puts}

pub returns-in-Some : goal.returns-in-Some
returns-in-Some g c = left-puts _ _ _ _ c.args.out.now c.put_within.new.out c.put_deepest.new.out _ _ c.put_deepest.result (rw c.lend.ensures at (rw c.in-Some.is at c.in_ok-level.ensures.put)) c.put_deepest.ensures
