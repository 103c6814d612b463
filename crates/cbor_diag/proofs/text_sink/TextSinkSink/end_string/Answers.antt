use Rattle.std.proofs.Common.{refl}
use Rattle.cbor_diag.proofs.text_sink.TextSinkSink.end_string.Goals as goal
use Rattle.cbor_diag.proofs.TextGiven.{string-ended}

pub returns-clause-given : goal.returns-clause-given
returns-clause-given c = string-ended c.args._is_key c.args.is_text c.args.self.now _ (record { put = c.in_ok-put_closing.ensures; innermost = refl; around = refl })
