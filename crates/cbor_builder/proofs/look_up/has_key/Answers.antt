use Rattle.std.proofs.Common.{List, ℕ, ◌∷◌, ◌++◌, [], map, subst}
use Rattle.theory_values.{proofs.Decided.fails, specs.Pairs.IsRising}
use Rattle.cbor_builder.proofs.look_up.has_key.Goals as goal
use Rattle.cbor_builder.{specs.inner.Spans.span_pair, specs.declared.span.Span.Span, proofs.LookUp.above_other}

pub returns-then-is_above : goal.returns-then-is_above
returns-then-is_above c =
    let o = c.args.order in
    let ks = c.args.spans.now in
    let wanted : Span = record { prefix = c.prefix.result; key = c.args.key; val = c.args.val; end = c.args.val } in
    fails (above_other o c.args.out.now ks wanted (subst (λ (xs : List ℕ). IsRising o (map (span_pair xs) ks) → IsRising o (map (span_pair xs) (ks ++ wanted ∷ []))) c.as_slice-bytes.ensures (c.is_above.ensures c.if-is_above.true) (c.requires.rises c.if-rises.true)))
