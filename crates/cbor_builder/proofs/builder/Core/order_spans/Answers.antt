use Rattle.std.proofs.Common.{◌≡◌, ◌+◌, ◌≤◌, ◌++◌, ◌∙◌, ℕ, List, length, length-append, length-drop, length-take, take, drop, map, refl, sym, ap, subst, arith, IsPermutation, append_assoc, IsTrue, ◌↔◌}
use Rattle.std.proofs.lemmas.List.{take_rest, Sorted.length_permutation}
use Rattle.theory_values.specs.Pairs.{IsRising, HasDistinctBytes}
use Rattle.cbor_builder.proofs.builder.Core.order_spans.Goals as goal
use Rattle.cbor_builder.{specs.inner.Spans.span_pair, specs.declared.span.Span.Span, specs.inner.Prefix.ArePrefixed, proofs.InOrder.sorted_pairs}
use Rattle.cbor_builder.proofs.Inserted.{taken_prefix, rest_prefix}

pub sort_distinct-requires : goal.sort_distinct-requires
sort_distinct-requires c =
    let s = c.args.self.now in
    let us = take_rest c.deref_mut.result.now c.args.first ∙ ap (drop c.args.first) c.deref_mut.ensures.value in
    coe 1 0 (i. ArePrefixed (c.as_slice.ensures i) (us i)) c.requires.fits.3

-- what sorting a part leaves
placed : (n m : ℕ) (us ys post zs : List Span) → n ≤ length us → n + length ys ≡ m → take m ((take n us ++ (ys ++ post)) ++ zs) ≡ take n us ++ ys
placed n m us ys post zs h e =
    ap (take m) (append_assoc (take n us) (ys ++ post) zs ∙ ap (λ (ts : List Span). take n us ++ ts) (append_assoc ys post zs) ∙ sym (append_assoc (take n us) ys (post ++ zs)))
    ∙ taken_prefix m (take n us ++ ys) (post ++ zs) (omega (arith, length-take n us, length-append (take n us) ys, h, e))

pub returns : goal.returns
returns c =
    let s = c.args.self.now in
    let n = c.args.first in
    let was = drop n s.spans.items in
    let given = c.deref_mut.result.now in
    let ys = c.sort_distinct.new.spans in
    let e = c.sort_distinct.ensures in
    let us = take_rest given n ∙ ap (drop n) c.deref_mut.ensures.value in
    let moved = subst (λ (xs : List Span). IsPermutation xs ys) us e.permuted in
    let short = length-drop n s.spans.items in
    let same = ap length c.deref_mut.ensures.value in
    let prefix : length (take n given) ≡ n = omega (arith, length-take n given, c.requires.fits.0, same) in
    let left = placed n s.spans.len given ys _ _ (omega (arith, c.requires.fits.0, same)) (omega (arith, c.requires.fits.0, length_permutation was ys moved, short, s.spans.ok.0)) in
    let all = ap (drop n) left ∙ rest_prefix n (take n given) ys prefix in
    let distinct = coe 0 1 (i. IsTrue c.sort_distinct.result ↔ HasDistinctBytes (map (span_pair (c.as_slice.ensures i)) (us i))) e.distinct in
    record {
      order = refl;
      out = refl;
      top = refl;
      around = refl;
      prefix = ap (take n) left ∙ taken_prefix n (take n given) ys prefix ∙ ap (take n) c.deref_mut.ensures.value;
      permuted = subst (IsPermutation was) (sym all) moved;
      distinct = distinct;
      pairs = λ t.
          let rising = subst (λ (bs : List ℕ). IsRising s.order (map (span_pair bs) ys)) c.as_slice.ensures (e.rising t) in
          ap (map (span_pair s.out)) all ∙ sorted_pairs s.order s.out was ys moved rising (distinct.0 t);
    }
