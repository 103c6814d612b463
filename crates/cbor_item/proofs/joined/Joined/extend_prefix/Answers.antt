use Rattle.std.proofs.Common.{◌≡◌, ◌+◌, ◌-◌, ◌++◌, take, drop, length, length-append, length-take, length-drop, ap, ◌∙◌, sym, arith, take-take}
use Rattle.std.proofs.lemmas.List.{with_items_is}
use Rattle.cbor_builder.proofs.Written.{written}
use Rattle.cbor_item.proofs.joined.Joined.extend_prefix.Goals as goal

pub returns-in-Some-clause-extended : goal.returns-in-Some-clause-extended
returns-in-Some-clause-extended c =
    let v = c.self.inside.buf in
    let xs = c.deref_mut.result.now in
    let ys = c.copy_from_slice.new.self in
    let at = c.self.inside.len in
    let k = c.args.count in
    let rest = drop (at + 32 - at) (drop at xs) in
    let few = c.if-count-le-BLOCK.true in
    let long : length xs ≡ v.len = ap length c.deref_mut.ensures.value ∙ sym v.ok.0 in
    let all : length ys ≡ 32 = omega arith in
    let p = length-drop (at + 32 - at) (drop at xs) in
    let whole : length (take at xs ++ (ys ++ rest)) ≡ v.len = omega (arith, length-append (take at xs) (ys ++ rest), length-append ys rest, length-take at xs, p, length-drop at xs, all, long) in
    ap (take (at + k)) (with_items_is v (take at xs ++ (ys ++ rest)) whole)
    ∙ written xs ys rest at k (omega arith) (omega (arith, few, all))
    ∙ (λ i. (ap (take at) c.deref_mut.ensures.value ∙ c.self.view_is) i
    ++ (ap (take k) (c.copy_from_slice.ensures.after ∙ c.in-Some.ensures.cases.same) ∙ take-take k 32 c.args.prefix.now few) i)
