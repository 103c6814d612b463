use Rattle.std.proofs.Common.{subst, ◌∙◌}
use Rattle.cbor_text.proofs.TextPrefixes.{fill-past, fill-never, fixed-now}
use Rattle.cbor_text.proofs.text_check.fill.Goals as goal
use Rattle.cbor_text.specs.inner.TextCheck.{IsFixed}

pub overflow_sub-result : goal.overflow_sub-result
overflow_sub-result c =
    (fill-past _ _ _ _ _ (c.as_slice.ensures.value ∙ c.join.ensures) c.requires.unfinished c.in-Open.ensures.0 c.in-Open.n-test.1).0

pub returns-in-Open : goal.returns-in-Open
returns-in-Open c =
    let past = fill-past _ _ _ _ _ (c.as_slice.ensures.value ∙ c.join.ensures) c.requires.unfinished c.in-Open.ensures.0 c.in-Open.n-test.1 in
    (past.1, past.2)

pub overflow_sub-result-in-Fixed : goal.overflow_sub-result-in-Fixed
overflow_sub-result-in-Fixed c =
    let valid = fixed-now _ c.in-Fixed.n (λ more. c.in-Fixed.ensures more) in
    (fill-past _ _ _ _ _ (c.as_slice.ensures.value ∙ c.join.ensures) c.requires.unfinished valid c.in-Fixed.n-test.1).0

pub returns-in-Fixed : goal.returns-in-Fixed
returns-in-Fixed c =
    let valid = fixed-now _ c.in-Fixed.n (λ more. c.in-Fixed.ensures more) in
    let past = fill-past _ _ _ _ _ (c.as_slice.ensures.value ∙ c.join.ensures) c.requires.unfinished valid c.in-Fixed.n-test.1 in
    (past.1, past.2)

pub returns-in-Fixed-eq0 : goal.returns-in-Fixed-eq0
returns-in-Fixed-eq0 c =
    let there : IsFixed c.as_slice.result.now c.in-Fixed-eq0.field-0 = λ more. c.in-Fixed-eq0.ensures more in
    fill-never _ _ _ _ (c.as_slice.ensures.value ∙ c.join.ensures) (subst (IsFixed c.as_slice.result.now) c.in-Fixed-eq0.field-0-test there)
