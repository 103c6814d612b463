use Rattle.std.proofs.Common.{arith}
use Rattle.cbor_writer.proofs.writer.Writer.put_end.Goals as goal
use Rattle.cbor_writer.{proofs.Appended.one_more, specs.Parts.an_end}

pub returns : goal.returns
returns c = record { appends = c.append.ensures; parts = one_more (an_end) c.args.buffer.now c.append.new.buffer c.args.self.now c.append.new.self (omega arith) c.append.ensures }
