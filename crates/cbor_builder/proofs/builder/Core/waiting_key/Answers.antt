use Rattle.std.proofs.Common.{ℕ, List, ◌∷◌, take, sym, ap, ◌∙◌, subst, slice_range}
use Rattle.cbor_builder.proofs.builder.Core.waiting_key.Goals as goal
use Rattle.cbor_builder.specs.inner.Laid.{opens, outer_spans, shape_open}
use Rattle.cbor_builder.{proofs.Slices.slice_all, specs.Built.IsWaitingKey, specs.inner.BuilderState.outers, specs.declared.frame.Shape.Shape}

pub returns-in-Key : goal.returns-in-Key
returns-in-Key c =
    let s = c.args.self.now in
    let key = c.part.ensures ∙ ap (λ (xs : List ℕ). slice_range xs c.in-Key.key c.len.result) c.as_slice.ensures in
    let around = opens (take s.top.from s.out) (outer_spans s.spans.items s.top.shape) (outers s) in
    subst (λ (h : Shape). IsWaitingKey (shape_open s.out s.spans.items s.top.start h ∷ around) c.part.result.now) (sym c.in-Key.is) (key ∙ slice_all s.out c.in-Key.key c.len.result (sym c.len.ensures))
