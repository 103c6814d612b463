use Rattle.std.proofs.Common.{refl}
use Rattle.cbor_parser.specs.Sink.{leaf_value}
use Rattle.cbor_diag.proofs.text_sink.TextSinkSink.leaf.Goals as goal
use Rattle.cbor_diag.{specs.Text.text, proofs.TextGiven.given}

pub returns-clause-given : goal.returns-clause-given
returns-clause-given c =
    let v = leaf_value c.args.major c.args.number in
    given c.args.is_key v (text v) c.args.self.now c.reach.new.self _ c.in_ok-reach.ensures refl (record { put = c.in_ok-put_leaf.ensures; innermost = refl; around = refl })
