use Rattle.std.proofs.Common.{take, refl}
use Rattle.theory_verdicts.specs.Reading.{string_value}
use Rattle.cbor_diag.proofs.text_sink.TextSinkSink.string.Goals as goal
use Rattle.cbor_diag.{specs.inner.Strings.string_text, proofs.TextGiven.text-of_string, proofs.TextGiven.given}

pub returns-clause-given : goal.returns-clause-given
returns-clause-given c =
    let t = c.args.is_text in
    let content = take c.args.count c.args.prefix.now in
    given c.args.is_key (string_value t content) (string_text t content) c.args.self.now c.reach.new.self _ c.in_ok-reach.ensures (text-of_string t content)
    (record { put = c.in_ok-put_string.ensures; innermost = refl; around = refl })
