use Rattle.std.proofs.Common.{true, arith}
use Rattle.cbor_diag.proofs.text_sink.TextSinkSink.end.Goals as goal
use Rattle.cbor_diag.proofs.TextGiven.{some-open, ended}

pub unreachable-requires : goal.unreachable-requires
unreachable-requires c = some-open true c.args._is_map c.args.self.now c.requires.full c.in_default.not-Some

pub returns-clause-ends : goal.returns-clause-ends
returns-clause-ends c = λ yes.
    ended c.args._is_map c.in-Some.open c.args.self.now _ c.in-Some.is c.in_ok-put_closer.ensures c.pop-self.ensures.items (λ l. c.pop-self.ensures.variant.1 (omega (arith, l, c.args.self.now.around.ok.0)))
