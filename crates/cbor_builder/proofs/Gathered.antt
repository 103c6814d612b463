-- Pairs gathered one after the other.
use Rattle.std.proofs.Common.{◌≡◌, ℕ, ◌+◌, ◌<◌, ◌≤◌, List, ◌++◌, append_assoc, append-nil, length, drop, get_or, map, sym, ap, ◌∙◌, slice_range, flat_map}
use Rattle.std.proofs.lemmas.List.{drop_all, get_or_default}
use Rattle.theory_values.specs.Pairs.{pair_bytes}
use Rattle.cbor_builder.{proofs.ByIndex.at_read, proofs.ByIndex.all_index, specs.inner.Spans.span_pair, specs.inner.Spans.AreWithin}
use Rattle.cbor_builder.{specs.declared.span.Span.Span, proofs.Slices.slices_join}

pub gathered_all : (out : List ℕ) (ss : List Span) (i : ℕ) (whole now : List ℕ) → length ss ≤ i → whole ≡ now ++ flat_map pair_bytes (map (span_pair out) (drop i ss)) → now ≡ whole
gathered_all out ss i whole now l h =
    sym (append-nil now) ∙ ap (λ (us : List Span). now ++ flat_map pair_bytes (map (span_pair out) us)) (sym (drop_all i ss l)) ∙ sym h

pub gathered_at : (out : List ℕ) (ss : List Span) (i : ℕ) (d : Span) (whole was now : List ℕ) → AreWithin out ss → i < length ss
    → whole ≡ was ++ flat_map pair_bytes (map (span_pair out) (drop i ss))
    → now ≡ was ++ slice_range out (get_or ss i d).key (get_or ss i d).end
    → whole ≡ now ++ flat_map pair_bytes (map (span_pair out) (drop (i + 1) ss))
gathered_at out ss i d whole was now w l h a =
    let x = get_or ss i d in
    let rest = flat_map pair_bytes (map (span_pair out) (drop (i + 1) ss)) in
    let k = all_index _ ss i d w l in
    h ∙ ap (λ (us : List Span). was ++ flat_map pair_bytes (map (span_pair out) us)) (at_read ss i x l (get_or_default ss i d x l)) ∙ sym (append_assoc was (slice_range out x.key x.val ++ slice_range out x.val x.end) rest)
    ∙ ap (λ (xs : List ℕ). (was ++ xs) ++ rest) (slices_join out x.key x.val x.end k.0 k.1) ∙ ap (λ (xs : List ℕ). xs ++ rest) (sym a)
