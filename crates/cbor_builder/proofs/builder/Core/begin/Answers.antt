use Rattle.std.proofs.Common.{List, ◌∷◌, ap, ◌∙◌}
use Rattle.theory_values.specs.Parts.{opened}
use Rattle.cbor_builder.proofs.builder.Core.begin.Goals as goal
use Rattle.cbor_builder.specs.{declared.span.Span.Span, inner.BuilderState.frames, inner.Laid.opens, inner.Laid.opening_frame}
use Rattle.cbor_builder.proofs.Growth.{begun}

pub returns-clause-given : goal.returns-clause-given
returns-clause-given c =
    let s = c.args.self.now in
    let b = c.enter.new.self in
    let e = c.in_ok-enter.ensures in
    let top = c.opening-self.ensures ∙ ap (opening_frame c.args.major c.len-from.result c.len.result) (c.len-2.ensures ∙ b.spans.ok.0) in
    let around = e.around in
    (λ i. opens b.out b.spans.items (top i ∷ around i))
    ∙ begun c.args.major c.args.n c.len-from.result c.len.result s.out b.out b.spans.items (frames s) c.len-from.ensures c.len.ensures (e.out ∙ c.in_ok-head.ensures.appended)
    ∙ ap (λ (ss : List Span). opened c.args.major c.args.n ∷ opens s.out ss (frames s)) e.spans
