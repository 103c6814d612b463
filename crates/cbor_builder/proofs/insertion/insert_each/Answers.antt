use Rattle.std.proofs.Common.{◌≡◌, ℕ, ◌+◌, ◌++◌, ◌∷◌, List, length, length-take, take, take-append-drop, drop, get_or, map, refl, sym, ◌∙◌, subst, arith, IsPermutation, take_all}
use Rattle.std.proofs.lemmas.List.Sorted.{IsPermutation-sym, IsPermutation-map, IsPermutation-append_left}
use Rattle.std.proofs.lemmas.List.{get_or_default}
use Rattle.theory_values.{specs.Pairs.IsRising, proofs.Sorting.rising_distinct, proofs.Decided.holds, proofs.Decided.fails}
use Rattle.cbor_builder.specs.inner.Prefix.{key_of, IsPrefixed, ArePrefixed}
use Rattle.cbor_builder.proofs.Inserted.{at_start_taken, taken_prefix, rest_prefix, same_at, rest_more, all_taken, more_permuted, repeats}
use Rattle.cbor_builder.proofs.insertion.insert_each.Goals as goal
use Rattle.cbor_builder.{specs.inner.Spans.span_pair, specs.inner.Spans.no_span, specs.declared.span.Span.Span, proofs.ByIndex.all_index, specs.Built.HasKey}
use Rattle.cbor_builder.proofs.{KeysSoFar.distinct_permuted, Ranks.all_permuted}

pub insert-requires-clause-prefixed : goal.insert-requires-clause-prefixed
insert-requires-clause-prefixed c =
    let i = c.loop-i.i in
    let bytes = c.args.bytes.now in
    subst (ArePrefixed bytes) (sym (at_start_taken i c.loop-i.spans (omega arith)))
    (all_permuted _ (take i c.args.spans.now) (take i c.loop-i.spans) c.loop-i.invariant.0 (all_taken _ i c.args.spans.now c.requires))

pub insert-requires-clause-next : goal.insert-requires-clause-next
insert-requires-clause-next c =
    let i = c.loop-i.i in
    let same = same_at i c.loop-i.spans c.args.spans.now no_span c.loop-i.invariant.2 in
    subst (IsPrefixed c.args.bytes.now) (sym same) (all_index _ c.args.spans.now i no_span c.requires (omega arith))

-- the first ones are sorted among themselves, and the others are unchanged
whole : (n : ℕ) (given us ys : List Span) → IsPermutation (take n given) ys → drop n us ≡ drop n given → IsPermutation given (ys ++ drop n us)
whole n given us ys m e = coe 1 0 (i. IsPermutation (sym (take-append-drop n given) i) (ys ++ e i)) (IsPermutation-append_left (drop n given) (take n given) ys m)

pub returns-then-not-insert : goal.returns-then-not-insert
returns-then-not-insert c =
    let i = c.loop-i.i in
    let bytes = c.args.bytes.now in
    let given = c.args.spans.now in
    let us = take i c.loop-i.spans in
    let next = get_or c.loop-i.spans i no_span in
    let same = same_at i c.loop-i.spans given no_span c.loop-i.invariant.2 ∙ get_or_default given i no_span next (omega arith) in
    let prefix = at_start_taken i c.loop-i.spans (omega arith) in
    let ys = c.insert.new.places in
    let e = c.if-not-insert.ensures in
    let key = subst (λ (us : List Span). HasKey (map (span_pair bytes) us) (key_of bytes next)) prefix (e.equal refl) in
    let moved = subst (λ (us : List Span). IsPermutation (next ∷ us) ys) prefix e.permuted in
    record {
      distinct = fails (repeats c.args.order bytes given us i next (omega arith) same c.loop-i.invariant.0 key);
      permuted = whole (i + 1) given c.loop-i.spans ys (more_permuted given us ys i next (omega arith) same c.loop-i.invariant.0 moved) (rest_more i c.loop-i.spans given c.loop-i.invariant.2);
      rising = λ t. cc;
    }

pub loop-i-preserved : goal.loop-i-preserved
loop-i-preserved c =
    let i = c.loop-i.i in
    let bytes = c.args.bytes.now in
    let next = get_or c.loop-i.spans i no_span in
    let same = same_at i c.loop-i.spans c.args.spans.now no_span c.loop-i.invariant.2 ∙ get_or_default c.args.spans.now i no_span next (omega arith) in
    let ys = c.insert.new.places in
    let rest = drop (i + 1) c.loop-i.spans in
    let size : length ys ≡ i + 1 = omega (arith, length-take (i + 1) c.loop-i.spans, c.insert.auto.places) in
    let all : take (i + 1) (ys ++ rest) ≡ ys = taken_prefix (i + 1) ys rest size in
    let moved : IsPermutation (next ∷ take i c.loop-i.spans) ys = subst (λ (us : List Span). IsPermutation (next ∷ us) ys) (at_start_taken i c.loop-i.spans (omega arith)) c.if-not-insert.ensures.permuted in (
      subst (IsPermutation (take (i + 1) c.args.spans.now)) (sym all) (more_permuted c.args.spans.now (take i c.loop-i.spans) ys i next (omega arith) same c.loop-i.invariant.0 moved),
      subst (λ (us : List Span). IsRising c.args.order (map (span_pair bytes) us)) (sym all) (c.if-not-insert.ensures.rising refl),
      rest_prefix (i + 1) ys rest size ∙ rest_more i c.loop-i.spans c.args.spans.now c.loop-i.invariant.2,
    )

pub returns : goal.returns
returns c =
    let i = c.loop-i.i in
    let was = c.args.spans.now in
    let ys = c.loop-i.spans in
    let f = span_pair c.args.bytes.now in
    let all : take i ys ≡ ys = take_all i ys (omega arith) in
    let permuted = coe 0 1 (k. IsPermutation (take_all i was (omega arith) k) (all k)) c.loop-i.invariant.0 in
    let rising = subst (λ (us : List Span). IsRising c.args.order (map f us)) all c.loop-i.invariant.1 in
    record {
      distinct = holds (distinct_permuted (map f ys) (map f was) (IsPermutation-map f ys was (IsPermutation-sym was ys permuted)) (rising_distinct c.args.order (map f ys) rising));
      permuted = permuted;
      rising = λ t. rising;
    }
