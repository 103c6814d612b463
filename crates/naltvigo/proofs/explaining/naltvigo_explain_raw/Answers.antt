use Rattle.std.proofs.Common.{◌∙◌, ap, subst, sym, take}
use Rattle.naltvigo.proofs.explaining.naltvigo_explain_raw.Goals as goal
use Rattle.naltvigo.{specs.Explaining.IsExplanationOf, proofs.Explained.explained}

pub returns-in-Ok-clause-written : goal.returns-in-Ok-clause-written
returns-in-Ok-clause-written c ok =
    let text = explained c.args.depth c.args.bytes c.args.reason c.args.offset c.args.input.now c.in-Ok.text.items c.as_slice.result.now c.in-Some.limits c.in-Some-reason_numbered.reason
    c.at.result c.in-Some.ensures.value.0 c.at.ensures c.as_slice.ensures.value c.in-Some-reason_numbered.ensures.some c.in-Ok.ensures in
    subst (IsExplanationOf c.args.depth c.args.input.now c.args.reason c.args.offset)
    (sym (ap (λ n. take n c.give.new.out) c.give.ensures.needed ∙ (c.give.ensures.given ok).0)) text

pub returns-in-Ok-clause-too_small : goal.returns-in-Ok-clause-too_small
returns-in-Ok-clause-too_small c small =
    let text = explained c.args.depth c.args.bytes c.args.reason c.args.offset c.args.input.now c.in-Ok.text.items c.as_slice.result.now c.in-Some.limits c.in-Some-reason_numbered.reason
    c.at.result c.in-Some.ensures.value.0 c.at.ensures c.as_slice.ensures.value c.in-Some-reason_numbered.ensures.some c.in-Ok.ensures in
    (c.as_slice.result.now, text, c.give.ensures.needed, (c.give.ensures.too_small small).0)
