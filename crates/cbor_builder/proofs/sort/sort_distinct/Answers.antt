use Rattle.std.proofs.Common.{map, arith, IsTrue}
use Rattle.std.proofs.lemmas.List.Sorted.{IsPermutation-sym, IsPermutation-map}
use Rattle.theory_values.{specs.Pairs.IsRising, proofs.KeyByteLists.are_bytes, proofs.Sorting.rising_distinct}
use Rattle.cbor_builder.proofs.sort.sort_distinct.Goals as goal
use Rattle.cbor_builder.{specs.inner.Spans.span_pair, proofs.Ranks.all_permuted, proofs.Ranks.sorted_keys}
use Rattle.cbor_builder.proofs.{Neighbours.differ_from_distinct, Neighbours.rising_from_differ, KeysSoFar.distinct_permuted}

pub differ-requires : goal.differ-requires
differ-requires c = all_permuted _ c.args.spans.now c.sort_by_keys.new.spans c.sort_by_keys.ensures.permuted c.requires

pub returns-then-spans-gt-FEW : goal.returns-then-spans-gt-FEW
returns-then-spans-gt-FEW c =
    let o = c.args.order in
    let bytes = c.args.bytes.now in
    let xs = c.args.spans.now in
    let ys = c.sort_by_keys.new.spans in
    let f = span_pair bytes in
    let e = c.sort_by_keys.ensures in
    let moved = IsPermutation-map f xs ys e.permuted in
    let sorted = sorted_keys o bytes ys (are_bytes bytes (λ i. omega (arith, c.type_inv.bytes i))) (all_permuted _ xs ys e.permuted c.requires) e.sorted in
    let rising : IsTrue c.differ.result → IsRising o (map f ys) = λ t. rising_from_differ o bytes ys sorted (c.differ.ensures.0 t) in
    record {
      distinct = (
        (λ t. distinct_permuted (map f ys) (map f xs) (IsPermutation-sym (map f xs) (map f ys) moved) (rising_distinct o (map f ys) (rising t))),
        (λ d. c.differ.ensures.1 (differ_from_distinct bytes ys (distinct_permuted (map f xs) (map f ys) moved d))),
      );
      permuted = e.permuted;
      rising = rising;
    }
