use Rattle.cbor_diag.proofs.text.send_item.Goals as goal
use Rattle.cbor_diag.proofs.Putting.{flush-puts}

pub returns-clause-put : goal.returns-clause-put
returns-clause-put g c = flush-puts _ _ _ c.args.out.now c.put_item.new.out c.flush.new.self _ c.flush.result c.in_ok-put_item.ensures c.flush.ensures.done
