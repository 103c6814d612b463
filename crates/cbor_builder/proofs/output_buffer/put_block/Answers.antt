use Rattle.std.proofs.Common.{◌≡◌, ◌+◌, ◌-◌, ◌++◌, take, drop, length, ap, ◌∙◌, sym, arith}
use Rattle.std.proofs.lemmas.List.{with_items_is}
use Rattle.cbor_builder.proofs.output_buffer.put_block.Goals as goal
use Rattle.cbor_builder.proofs.Written.{written, length_kept}

pub returns-clause-block : goal.returns-clause-block
returns-clause-block c =
    let v = c.args.buf.now in
    let xs = c.deref_mut.result.now in
    let ys = c.copy_from_slice.new.self in
    let at = c.args.len in
    let k = c.args.count in
    let long : length xs ≡ v.len = ap length c.deref_mut.ensures.value ∙ sym v.ok.0 in
    let all : length ys ≡ 32 = omega arith in
    let past : at + 32 - at ≡ 32 = omega arith in
    ap (take (at + k)) (with_items_is v (take at xs ++ (ys ++ drop (at + 32 - at) (drop at xs))) (length_kept xs ys at (at + 32 - at) (omega arith) (all ∙ sym past) ∙ long))
    ∙ written xs ys (drop (at + 32 - at) (drop at xs)) at k (omega arith) (omega (arith, c.requires, all))
    ∙ (λ i. ap (take at) c.deref_mut.ensures.value i ++ ap (take k) c.copy_from_slice.ensures.after i)
