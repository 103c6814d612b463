use Rattle.std.proofs.Common.{refl}
use Rattle.cbor_diag.proofs.text_sink.TextSinkSink.begin_string.Goals as goal
use Rattle.cbor_diag.proofs.TextGiven.{string-begun}

pub returns-clause-given : goal.returns-clause-given
returns-clause-given c = string-begun c.args.is_key c.args.is_text c.args.self.now c.reach.new.self _ c.in_ok-reach.ensures (record { put = c.in_ok-put_opening.ensures; innermost = refl; around = refl })
