use Rattle.std.proofs.Common.{◌≡◌, ap, ◌∙◌}
use Rattle.std.proofs.lemmas.Result.{IfOk-weaker}
use Rattle.cbor_head.specs.Prelude.{plain, Spelling, value_of, accepted}
use Rattle.cbor_diag.proofs.text_buffer.TextBuffer.diagnostic_prefix.Goals as goal
use Rattle.cbor_diag.specs.Text.{text}

same-item : {s t : Spelling} → accepted s ≡ accepted t → s ≡ t
same-item e = cc e

pub returns-in-Ok : goal.returns-in-Ok
returns-in-Ok c =
    let given = c.in-Ok.ensures.given in
    let item = given.read.item in
    IfOk-weaker c.finish.result _ _
    (λ shown h s v.
    let one = c.verdict_is_one.ensures.one c.args.limits plain c.args.bytes.now (accepted item) (accepted s) given.read.verdict v in
    h item given.whole ∙ ap (λ (t : Spelling). text (value_of t)) (same-item one)) c.finish.ensures
