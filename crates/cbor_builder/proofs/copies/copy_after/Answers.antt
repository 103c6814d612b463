use Rattle.std.proofs.Common.{List, ℕ, ◌≡◌, ◌+◌, ◌-◌, ◌++◌, ◌≤◌, length, length-take, take, drop, take_all, refl, ap, ◌∙◌, sym, arith, slice_range}
use Rattle.cbor_builder.proofs.Slices.{prefix_of_list, slice_within, slice_length}
use Rattle.cbor_builder.proofs.copies.copy_after.Goals as goal
use Rattle.cbor_builder.proofs.Written.{written}

pub returns-clause-following : goal.returns-clause-following
returns-clause-following c =
    let b = c.args.buf.now in
    let k = c.args.end - c.args.start in
    let ys = c.copy.new.to in
    let f = c.split_at_mut-prefix in
    let n = c.args.len in
    let fits : n ≤ length b = omega (arith, c.requires.space) in
    let part : ys ≡ slice_range b c.args.start c.args.end =
    c.copy.ensures ∙ ap (λ (xs : List ℕ). slice_range xs c.args.start c.args.end) f.ensures.front
    ∙ sym (slice_within b (take n b) c.args.start c.args.end (prefix_of_list b (take n b) n refl fits) c.requires.begins (let l = length-take n b in omega (arith, l, fits, c.requires.ends))) in
    let size : length ys ≡ k = ap length part ∙ slice_length b c.args.start c.args.end (omega (arith, fits, c.requires.ends)) in
    (λ i. take (n + k) (f.ensures.front i ++ (ys ++ drop k f.result.1.now))) ∙ written b ys (drop k f.result.1.now) n k fits (omega (arith, size))
    ∙ ap (λ (xs : List ℕ). take n b ++ xs) (take_all k ys (omega (arith, size)) ∙ part)
