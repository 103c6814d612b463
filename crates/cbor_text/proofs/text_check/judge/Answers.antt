use Rattle.std.proofs.Common.{sym, subst, ◌∙◌}
use Rattle.std.proofs.lemmas.Str.{IsUtf8-from_ascii}
use Rattle.cbor_text.proofs.text_check.judge.Goals as goal
use Rattle.cbor_text.{specs.inner.TextCheck.IsFixed, proofs.TextPrefixes.fixed}

pub returns-in-Some : goal.returns-in-Some
returns-in-Some c =
    let e = sym c.in-Err.ensures.fault ∙ sym c.error_len.ensures ∙ c.in-Some.is in
    subst (IsFixed c.args.bytes.now) (sym c.valid_up_to-in-Some.ensures) (fixed c.args.bytes.now _ c.in-Some.field-0 c.in-Err.ensures.cases.1 e)

pub returns-then-are_few_ascii : goal.returns-then-are_few_ascii
returns-then-are_few_ascii c = IsUtf8-from_ascii c.args.bytes.now (c.are_few_ascii.ensures c.if-are_few_ascii.true)
