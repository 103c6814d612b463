use Rattle.std.proofs.Common.{refl}
use Rattle.cbor_diag.proofs.text_sink.TextSinkSink.begin.Goals as goal
use Rattle.cbor_diag.proofs.TextGiven.{opened}

pub returns-clause-given : goal.returns-clause-given
returns-clause-given c = opened c.args.is_key c.args.major c.args.number c.args.self.now c.reach.new.self _ c.in_ok-reach.ensures c.in_ok-put_opener.ensures refl c.in_ok-push.ensures
