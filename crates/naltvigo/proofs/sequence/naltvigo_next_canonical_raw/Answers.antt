use Rattle.std.proofs.Common.{subst}
use Rattle.cbor_head.specs.Prelude.{strict, Bounds, IsVerdict, refused}
use Rattle.cbor_head.specs.declared.{order.KeyOrder.KeyOrder, reason.Refusal.Refusal}
use Rattle.theory_verdicts.{proofs.Reasons.never-memory, specs.Readers.HasNoCanonicalPrefix}
use Rattle.naltvigo.proofs.sequence.naltvigo_next_canonical_raw.Goals as goal
use Rattle.naltvigo.{specs.Settings.key_order, proofs.Given.given-reported}

pub returns-in-Err-clause-refused : goal.returns-in-Err-clause-refused
returns-in-Err-clause-refused c = λ _.
    given-reported (λ (b : Bounds) (f : Refusal). IsVerdict b (strict (key_order c.args.order)) c.args.input.now (refused f)) c.in-Some-limits_of.ensures.value.0
    (given-reported (λ (o : KeyOrder) (f : Refusal). IsVerdict c.in-Some-limits_of.limits (strict o) c.args.input.now (refused f)) c.in-Some.ensures.value.0
    record {
      why = c.in-Err.reason;
      holds = c.in-Err.ensures.refused;
      not_memory = never-memory c.in-Some-limits_of.limits _ c.args.input.now c.in-Err.reason c.in-Err.ensures.refused;
      reported = c.reported.ensures;
    })

pub returns-in-Err-clause-no_canonical : goal.returns-in-Err-clause-no_canonical
returns-in-Err-clause-no_canonical c = λ _.
    subst (λ (b : Bounds). HasNoCanonicalPrefix b (key_order c.args.order) c.args.input.now) c.in-Some-limits_of.ensures.value.0
    (subst (λ (o : KeyOrder). HasNoCanonicalPrefix c.in-Some-limits_of.limits o c.args.input.now)
    c.in-Some.ensures.value.0 c.in-Err.ensures.no_canonical)
