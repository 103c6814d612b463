use Rattle.std.proofs.Common.{List, ℕ, ◌++◌, length, take, ap, ◌∙◌, arith}
use Rattle.std.proofs.lemmas.Result.{on_ok_weaker}
use Rattle.cbor_builder.proofs.output_buffer.OutputBuffer.extend_within.Goals as goal
use Rattle.cbor_builder.proofs.{Slices.block_part, Slices.prefix_of_list, Written.vec_extended}

pub returns-in-Some-clause-appended : goal.returns-in-Some-clause-appended
returns-in-Some-clause-appended c =
    let out = c.args.self.now in
    let v = c.self.inside.buf in
    let prefix = ap (take (length out)) c.deref.ensures.value ∙ prefix_of_list v.items out c.self.inside.len c.self.view_is (omega (arith, c.self.invariant, v.ok.0)) in
    on_ok_weaker c.extend_block.result (λ e. e ∙ ap (λ (xs : List ℕ). out ++ xs)
    (block_part c.deref.result.now out c.in-Some.block.now c.args.start c.args.end prefix c.requires.begins c.requires.ends c.if-count-le-BLOCK.true c.in-Some.ensures.cases.same)) c.extend_block.ensures.appended

pub returns-clause-appended : goal.returns-clause-appended
returns-clause-appended c =
    let v = c.make_space.new.buf in
    let d = c.copy_after-self-inside in
    vec_extended v.items c.deref_mut.result.now d.new.buf c.args.self.now v.len c.self-2.inside.len d.result c.args.start c.args.end
    c.deref_mut.ensures.value v.ok.0 d.auto.buf (c.in_ok-make_space.ensures.same ∙ c.self-2.view_is) c.in_ok-make_space.ensures.within c.requires.begins c.requires.ends d.ensures.following
