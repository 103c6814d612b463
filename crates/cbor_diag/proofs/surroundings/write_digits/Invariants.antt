use Rattle.std.{proofs.Common.take, specs.Io.KnownBytes.Appends}
use Rattle.cbor_diag.proofs.surroundings.write_digits.Given as goal
use Rattle.cbor_diag.specs.Surroundings.{spaced}

abbrev pub invariant-loop-byte : goal.invariant-loop-byte
invariant-loop-byte g l = Appends (g.W.Write.contents l.initial.writer) (g.W.Write.contents l.writer) (spaced (take l.byte-index l.bytes))
