use Rattle.cbor_diag.proofs.walk.put_item.Goals as goal
use Rattle.cbor_diag.proofs.Leaving.{left-puts}

pub returns-in-Some : goal.returns-in-Some
returns-in-Some g c = left-puts _ _ _ _ c.args.out.now c.begin.new.out c.put_levels.new.out _ _ c.put_levels.result (rw c.in-Some.is at c.in_ok-level.ensures.put) c.put_levels.ensures
