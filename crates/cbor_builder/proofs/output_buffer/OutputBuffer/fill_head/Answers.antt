use Rattle.std.proofs.Common.{◌≡◌, ◌≤◌, ◌+◌, ◌*◌, ◌++◌, take, drop, length, length-take, ◌∙◌, arith}
use Rattle.cbor_head.proofs.Least.{one_byte}
use Rattle.cbor_builder.proofs.output_buffer.OutputBuffer.fill_head.Goals as goal
use Rattle.cbor_builder.proofs.Written.{byte_written}

pub returns-then-start-from-eq1-clause-filled : goal.returns-then-start-from-eq1-clause-filled
returns-then-start-from-eq1-clause-filled c =
    let b = c.self.inside in
    let xs = b.buf.items in
    let out = c.args.self.now in
    let x = 32 * c.number.result + c.args.n in
    let inv : b.len ≤ b.buf.len = c.self.invariant in
    let long : b.len ≤ length xs = omega (arith, inv, b.buf.ok.0) in
    let ends : c.args.start ≤ length (take b.len xs) = rw c.self.view_is c.requires.ends in
    let s : c.args.start ≡ c.args.from + 1 = omega (arith, c.if-start-from-eq1.true, c.requires.begins) in
    byte_written xs c.args.from c.args.start b.len x s (omega (arith, length-take b.len xs, ends)) long
    ∙ (λ i. take c.args.from (c.self.view_is i) ++ (one_byte c.args.major c.args.n c.number.result c.if-n-lt24.true c.number.ensures.number i ++ drop c.args.start (c.self.view_is i)))
