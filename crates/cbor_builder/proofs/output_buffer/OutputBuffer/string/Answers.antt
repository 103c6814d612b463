use Rattle.std.proofs.Common.{List, ℕ, ◌++◌, append_assoc, take, ap, ◌∙◌, take-take}
use Rattle.cbor_head.specs.Prelude.{shortest_head}
use Rattle.cbor_builder.proofs.output_buffer.OutputBuffer.string.Goals as goal

pub returns-in-Some-clause-appended : goal.returns-in-Some-clause-appended
returns-in-Some-clause-appended c =
    let k = c.args.count in
    let head = shortest_head c.args.major k in
    let prefix = c.in_ok-make_space.ensures.same ∙ c.self.view_is in
    let content = ap (take k) c.in-Some.ensures.cases.same ∙ take-take k 32 c.args.prefix.now c.if-count-le-BLOCK.true in
    c.put_block-self-inside.ensures.block
    ∙ (λ i. (c.put_head-at.ensures.head ∙ ap (λ (xs : List ℕ). xs ++ head) prefix) i ++ content i)
    ∙ append_assoc c.args.self.now head (take k c.args.prefix.now)
