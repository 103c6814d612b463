use Rattle.std.proofs.Common.{refl, sym, subst}
use Rattle.theory_values.{specs.Pairs.HasDistinctBytes, specs.Parts.HasNoRepeats, proofs.Decided.holds, proofs.Sorting.rising_distinct}
use Rattle.cbor_builder.specs.inner.Laid.{Fits, pairs_from, shape_open}
use Rattle.cbor_builder.proofs.builder.Core.give_up_pairs.Goals as goal
use Rattle.cbor_builder.specs.declared.frame.Shape.{Shape}
use Rattle.cbor_builder.proofs.builder.Core.give_up_pairs.Goals.{else-not-self-via-then-not-self+else-not-order_spans, else-not-self-via-else-not-self}

pub returns-clause-distinct : goal.returns-clause-distinct
returns-clause-distinct c =
    let s = c.args.self.now in
    let pairs = pairs_from s.out s.spans.items c.in-Map.first in
    let distinct : HasDistinctBytes pairs = elim c.else-not-self.branch [
      | else-not-self-via-then-not-self+else-not-order_spans w ↦ w.if-not-order_spans.ensures.distinct.0 refl
      | else-not-self-via-else-not-self w ↦
          let fits = subst (Fits s.order s.out s.spans.items s.top.from s.top.start s.top.rises) c.in-Map.is c.requires.laid.0.2 in
          rising_distinct s.order pairs (fits.2 w.if-not-self.false)
    ] in
    holds (subst (λ (h : Shape). HasNoRepeats (shape_open s.out s.spans.items s.top.start h)) (sym c.in-Map.is) distinct)
