use Rattle.std.{proofs.Common.replicate, specs.Io.KnownBytes.Appends}
use Rattle.cbor_diag.proofs.surroundings.write_blanks.Given as goal

abbrev pub invariant-loop : goal.invariant-loop
invariant-loop g l = Appends (g.W.Write.contents l.initial.writer) (g.W.Write.contents l.writer) (replicate l.counter 32)
