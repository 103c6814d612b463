use Rattle.std.proofs.Common.{inl, sym, ◌∙◌, arith}
use Rattle.theory_values.proofs.{Decided.holds, Decided.fails, KeyByteLists.are_bytes}
use Rattle.cbor_builder.proofs.LookUp.{key_step, no_key_left, passed}
use Rattle.cbor_builder.proofs.look_up.has_key_of.Goals as goal

pub returns-then-is_eq : goal.returns-then-is_eq
returns-then-is_eq c =
    let step = key_step c.args.order c.args.bytes.now c.args.spans.now c.loop-span.span-index _ c.args.wanted.now c.compare.result (are_bytes c.args.bytes.now (λ i. omega (arith, c.type_inv.bytes i))) c.requires.prefixed c.requires.wanted c.loop-span-test.true c.compare.ensures in
    holds (c.loop-span.invariant.1 (step.1 (inl (sym c.is_eq.ensures ∙ c.if-is_eq.true))))

pub loop-span-preserved : goal.loop-span-preserved
loop-span-preserved c =
    let step = key_step c.args.order c.args.bytes.now c.args.spans.now c.loop-span.span-index _ c.args.wanted.now c.compare.result (are_bytes c.args.bytes.now (λ i. omega (arith, c.type_inv.bytes i))) c.requires.prefixed c.requires.wanted c.loop-span-test.true c.compare.ensures in
    passed c.compare.result c.loop-span.invariant step (sym c.is_eq.ensures ∙ c.if-is_eq.false)

pub returns : goal.returns
returns c = fails (λ h. no_key_left c.args.bytes.now c.args.spans.now c.loop-span.span-index _ c.loop-span-test.false (c.loop-span.invariant.0 h))
