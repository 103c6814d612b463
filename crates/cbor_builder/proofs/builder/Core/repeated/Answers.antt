use Rattle.std.proofs.Common.{◌↔◌, List, ◌∷◌, IsTrue, drop, take, map, sym, ap, ◌∙◌, subst, arith}
use Rattle.std.proofs.lemmas.List.{take_rest}
use Rattle.theory_values.specs.Pairs.{IsRising}
use Rattle.cbor_builder.proofs.builder.Core.repeated.Goals as goal
use Rattle.cbor_builder.specs.inner.Laid.{Fits, opens, outer_spans, shape_open}
use Rattle.cbor_builder.{specs.inner.Spans.span_pair, specs.declared.span.Span.Span, proofs.Slices.slice_all, specs.Built.HasKey, specs.Built.IsRepeatedKey}
use Rattle.cbor_builder.specs.{inner.BuilderState.outers, inner.Prefix.ArePrefixed, declared.frame.Shape.Shape}

pub has_key-requires : goal.has_key-requires
has_key-requires c =
    let s = c.args.self.now in
    let f = s.top in
    let laid = c.requires.laid c.in-Key.first c.in-Key.key c.in-Key.is in
    let fits = subst (Fits s.order s.out s.spans.items f.from f.start f.rises) c.in-Key.is laid.2 in
    let us = take_rest c.deref.result.now c.in-Key.first ∙ ap (drop c.in-Key.first) c.deref.ensures.value in
    record {
      prefixed = subst (ArePrefixed s.out) (sym us) fits.4;
      rises = λ t. subst (λ (xs : List Span). IsRising s.order (map (span_pair s.out) xs)) (sym us) (fits.3 t);
      begins = omega (arith, c.len.ensures, fits.2);
      ends = omega (arith, c.len.ensures);
    }

pub returns-in-Key : goal.returns-in-Key
returns-in-Key c =
    let s = c.args.self.now in
    let us = take_rest c.deref.result.now c.in-Key.first ∙ ap (drop c.in-Key.first) c.deref.ensures.value in
    let key = slice_all s.out c.in-Key.key c.len.result (sym c.len.ensures) in
    let around = opens (take s.top.from s.out) (outer_spans s.spans.items s.top.shape) (outers s) in
    subst (λ (h : Shape). IsTrue c.has_key.result ↔ IsRepeatedKey (shape_open s.out s.spans.items s.top.start h ∷ around)) (sym c.in-Key.is)
    (coe 0 1 (i. IsTrue c.has_key.result ↔ HasKey (map (span_pair s.out) (us i)) (key i)) c.has_key.ensures)
