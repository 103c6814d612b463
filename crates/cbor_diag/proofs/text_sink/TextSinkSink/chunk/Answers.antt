use Rattle.std.proofs.Common.{take, refl}
use Rattle.cbor_diag.proofs.text_sink.TextSinkSink.chunk.Goals as goal
use Rattle.cbor_diag.proofs.TextGiven.{string-grown}

pub returns-clause-given : goal.returns-clause-given
returns-clause-given c = string-grown c.args._is_key c.args.is_text (take c.args.count c.args.prefix.now) c.args.self.now _ (record { put = c.in_ok-put_content.ensures; innermost = refl; around = refl })
