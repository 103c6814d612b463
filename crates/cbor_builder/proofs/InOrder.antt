-- Pairs that are sorted by their keys.
use Rattle.std.proofs.Common.{◌≡◌, IsPermutation, ℕ, List, ◌++◌, length, take, drop, take-append-drop, map, sym, ap, ◌∙◌, flat_map, refl}
use Rattle.std.proofs.lemmas.List.Sorted.{IsPermutation-map}
use Rattle.cbor_head.specs.{Prelude.in_order, declared.order.KeyOrder.KeyOrder}
use Rattle.theory_values.specs.Pairs.{IsRising, HasDistinctBytes, pair_bytes}
use Rattle.theory_values.proofs.Sorting.{in_order-rising}
use Rattle.cbor_builder.specs.{inner.Spans.span_pair, declared.span.Span.Span, inner.Laid.pairs_from, inner.Laid.Tile}
use Rattle.cbor_builder.proofs.{Growth.tile_joins, Neighbours.rising_is_in_order}

-- spans whose keys rise are the pairs in order
pub sorted_pairs : (o : KeyOrder) (out : List ℕ) (xs ys : List Span) → IsPermutation xs ys → IsRising o (map (span_pair out) ys) → HasDistinctBytes (map (span_pair out) xs)
    → map (span_pair out) ys ≡ in_order o (map (span_pair out) xs)
sorted_pairs o out xs ys m r d = rising_is_in_order o (map (span_pair out) xs) (map (span_pair out) ys) d (IsPermutation-map (span_pair out) xs ys m) r

-- pairs whose keys rise are in order
pub risen : (o : KeyOrder) (out : List ℕ) (ss : List Span) (start first : ℕ) → Tile start (drop first ss) (length out) → IsRising o (pairs_from out ss first)
    → out ≡ take start out ++ flat_map pair_bytes (in_order o (pairs_from out ss first))
risen o out ss start first t r =
    sym (take-append-drop start out)
    ∙ ap (λ (xs : List ℕ). take start out ++ xs) (sym (tile_joins out start (drop first ss) (length out) t refl) ∙ ap (flat_map pair_bytes) (sym (in_order-rising o (pairs_from out ss first) r)))
