use Rattle.cbor_diag.proofs.walk.put_levels.Goals as goal
use Rattle.cbor_diag.proofs.Leaving.{left-puts}

pub returns-in-Some : goal.returns-in-Some
returns-in-Some g c = left-puts _ _ _ _ c.args.out.now c.put_within.new.out c.put_deeper.new.out _ _ c.put_deeper.result (rw c.in-Some.is at c.in_ok-level.ensures.put) c.put_deeper.ensures
