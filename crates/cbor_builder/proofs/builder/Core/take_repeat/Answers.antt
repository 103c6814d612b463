use Rattle.std.proofs.Common.{List, drop, sym, ap, ◌∙◌, subst, MatchOption}
use Rattle.std.proofs.lemmas.List.{take_rest}
use Rattle.cbor_builder.proofs.OpenRepeats.{own_keys, reported_of, rising_different}
use Rattle.cbor_builder.proofs.Reordered.{reordered_first, reordered_length, reordered_own, reordered_waits}
use Rattle.cbor_builder.proofs.builder.Core.take_repeat.Goals as goal
use Rattle.cbor_builder.specs.{declared.span.Span.Span, inner.BuilderState.frames, inner.BuilderState.IsReordered, inner.Laid.Laid, inner.Laid.opens}
use Rattle.cbor_builder.specs.{Built.AreAllDifferent, Built.IsFirstRepeat, inner.Repeats.first_of, inner.Repeats.AreOf}
use Rattle.cbor_builder.proofs.builder.Core.take_repeat.Goals.{then-not-self, else-not-self}

pub repeated-is_waiting_repeated-requires : goal.repeated-is_waiting_repeated-requires
repeated-is_waiting_repeated-requires c =
    let s = c.args.self.now in
    let was = c.requires.laid.1 in
    record { laid = λ first key e. subst (λ (ss : List Span). Laid s.order s.out ss (frames s)) (sym (subst (IsReordered c.requires.laid.0 s.spans.items) e was.1)) was.0 }

pub first_repeat-pair-requires : goal.first_repeat-pair-requires
first_repeat-pair-requires c =
    let s = c.args.self.now in
    let f = s.top in
    let came = c.requires.laid.0 in
    let was = c.requires.laid.1 in
    let first = c.first_span-first.ensures ∙ ap (λ ss. first_of ss f.shape) c.deref.ensures.value ∙ reordered_first came s.spans.items f.shape was.1 in
    let us = take_rest c.deref_mut.result.now c.first_span-first.result ∙ (λ i. drop (first i) (c.deref_mut.ensures.value i)) in
    (drop (first_of came f.shape) came, coe 1 0 (i. AreOf (c.as_slice.ensures i) (drop (first_of came f.shape) came) (us i)) (reordered_own s.order s.out came s.spans.items f.from f.start f.rises f.shape was.0.2 was.1))

pub returns-clause-reports : goal.returns-clause-reports
returns-clause-reports c came was =
    let s = c.args.self.now in
    let f = s.top in
    let first = c.first_span-first.ensures ∙ ap (λ ss. first_of ss f.shape) c.deref.ensures.value ∙ reordered_first came s.spans.items f.shape was.1 in
    let own = reordered_own s.order s.out came s.spans.items f.from f.start f.rises f.shape was.0.2 was.1 in
    let pair : MatchOption c.if-not-self.pair (AreAllDifferent (own_keys s.out came f.shape)) (IsFirstRepeat (own_keys s.out came f.shape)) =
    elim c.if-not-self.branch [
      | then-not-self w ↦
          let bytes = w.as_slice.ensures in
          let us = take_rest w.deref_mut.result.now c.first_span-first.result ∙ (λ i. drop (first i) (w.deref_mut.ensures.value i)) in
          coe 1 0 (i. MatchOption (w.pair-is i) (AreAllDifferent (own_keys (sym bytes i) came f.shape)) (IsFirstRepeat (own_keys (sym bytes i) came f.shape)))
          (w.first_repeat-pair.ensures (drop (first_of came f.shape) came) (coe 1 0 (i. AreOf (bytes i) (drop (first_of came f.shape) came) (us i)) own))
      | else-not-self w ↦
          coe 1 0 (i. MatchOption (w.pair-is i) (AreAllDifferent (own_keys s.out came f.shape)) (IsFirstRepeat (own_keys s.out came f.shape))) (rising_different s.order s.out came f.from f.start f.rises f.shape was.0.2 w.if-not-self.false)
    ] in
    reported_of s.out came f.start c.first_span-first.result c.len.result f.shape c.if-not-self.pair c.or.result c.then_some.result c.repeated-is_waiting_repeated.result
    (opens _ _ _) first (c.len.ensures ∙ s.spans.ok.0 ∙ reordered_length came s.spans.items f.shape was.1) pair (reordered_waits s.out came s.spans.items f.start f.shape _ c.repeated-is_waiting_repeated.result was.1 c.repeated-is_waiting_repeated.ensures) c.then_some.ensures c.or.ensures
