use Rattle.std.proofs.Common.{◌≡◌, ◌≤◌, ◌+◌, ◌-◌, ◌++◌, take, drop, length, ap, ◌∙◌, sym, arith, take_all}
use Rattle.std.proofs.lemmas.List.{with_items_is}
use Rattle.cbor_builder.proofs.head.put.Goals as goal
use Rattle.cbor_builder.proofs.Written.{written, length_kept}

pub returns-clause-bytes : goal.returns-clause-bytes
returns-clause-bytes c =
    let v = c.args.buf.now in
    let xs = c.deref_mut.result.now in
    let ys = c.copy_from_slice.new.self in
    let at = c.args.len in
    let bytes = c.args.bytes.now in
    let k = length bytes in
    let long : length xs ≡ v.len = ap length c.deref_mut.ensures.value ∙ sym v.ok.0 in
    let past : at + k - at ≡ k = omega arith in
    let size : length ys ≡ k = ap length c.copy_from_slice.ensures.after in
    let space : at + k ≤ v.len = c.requires.space in
    ap (take (at + k)) (with_items_is v (take at xs ++ (ys ++ drop (at + k - at) (drop at xs))) (length_kept xs ys at (at + k - at) (omega (arith, past, long, space)) (size ∙ sym past) ∙ long))
    ∙ written xs ys (drop (at + k - at) (drop at xs)) at k (omega (arith, long, space)) (omega (arith, size))
    ∙ (λ i. ap (take at) c.deref_mut.ensures.value i ++ (ap (take k) c.copy_from_slice.ensures.after ∙ take_all k bytes (omega arith)) i)
