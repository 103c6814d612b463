use Rattle.std.proofs.Common.{◌∙◌, arith}
use Rattle.cbor_head.specs.Prelude.{shortest_head}
use Rattle.cbor_builder.proofs.output_buffer.OutputBuffer.fill_long.Goals as goal
use Rattle.cbor_builder.proofs.Written.{vec_kept, vec_moved}

pub returns-then-count-start-clause-filled : goal.returns-then-count-start-clause-filled
returns-then-count-start-clause-filled c =
    let k = c.head_bytes-count.result.1 in
    vec_kept c.self.inside.buf c.deref_mut.result.now c.copy_from_slice.new.self (shortest_head c.args.major c.args.n) c.args.self.now c.self.inside.len c.args.from c.args.start k
    c.deref_mut.ensures.value c.self.view_is c.self.invariant c.requires.begins c.requires.ends c.if-count-start.true (c.copy_from_slice.ensures.after ∙ c.head_bytes-count.ensures.bytes) c.head_bytes-count.ensures.count

pub returns-clause-filled : goal.returns-clause-filled
returns-clause-filled c =
    let k = c.head_bytes-count.result.1 in
    let space = c.in_ok-make_space.ensures.space in
    let few = c.head_bytes-count.ensures.few in
    vec_moved c.copy_within.new.self c.make_space.new.buf.items c.deref_mut-2.result.now c.copy_from_slice-2.new.self (shortest_head c.args.major c.args.n) c.args.self.now c.self.inside.len c.args.from c.args.start k
    c.copy_within.ensures.items c.deref_mut-2.ensures.value (c.in_ok-make_space.ensures.same ∙ c.self.view_is) (omega (arith, space, few, c.make_space.new.buf.ok.0)) (c.copy_within.ensures.len ∙ c.make_space.new.buf.ok.0)
    c.requires.begins c.requires.ends (c.copy_from_slice-2.ensures.after ∙ c.head_bytes-count.ensures.bytes) c.head_bytes-count.ensures.count
