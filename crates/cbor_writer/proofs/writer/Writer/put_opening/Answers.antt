use Rattle.std.proofs.Common.{◌+◌, ◌*◌, [], ◌∷◌, ℕ, subst, arith}
use Rattle.cbor_writer.proofs.writer.Writer.put_opening.Goals as goal
use Rattle.cbor_writer.{proofs.Appended.one_more, specs.Parts.an_opening, specs.Parts.bytes_of, specs.Writing.Appends}

pub returns : goal.returns
returns c =
    let appends : Appends (bytes_of (an_opening c.args.major)) c.args.buffer.now c.append.new.buffer c.args.self.now c.append.new.self =
    subst (λ (n : ℕ). Appends ((32 * n + 31) ∷ []) c.args.buffer.now c.append.new.buffer c.args.self.now c.append.new.self) c.number.ensures.number c.append.ensures in
    record { appends = appends; parts = one_more (an_opening c.args.major) c.args.buffer.now c.append.new.buffer c.args.self.now c.append.new.self (omega arith) appends }
