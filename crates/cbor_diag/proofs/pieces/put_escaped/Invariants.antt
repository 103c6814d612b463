use Rattle.cbor_diag.proofs.pieces.put_escaped.Given as goal
use Rattle.cbor_diag.proofs.PieceTexts.{IsWriting}

abbrev pub invariant-loop-at : goal.invariant-loop-at
invariant-loop-at g l = IsWriting (g.W.Write.contents l.fn.writer) (g.W.Write.contents l.writer) l.fn.out l.out l.text l.start l.at
