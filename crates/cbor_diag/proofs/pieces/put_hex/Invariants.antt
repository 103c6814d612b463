use Rattle.std.proofs.Common.{◌≤◌, ◌-◌, length}
use Rattle.cbor_diag.proofs.pieces.put_hex.Given as goal
use Rattle.cbor_diag.{specs.inner.Outbox.HasPut, proofs.PieceTexts.digits_to}

abbrev pub invariant-loop-at : goal.invariant-loop-at
invariant-loop-at g l = record {
  within : l.at ≤ length l.bytes;
  written : HasPut (g.W.Write.contents l.fn.writer) (g.W.Write.contents l.writer) l.fn.out l.out (digits_to l.bytes l.at);
}

abbrev pub decreases-loop-at : goal.decreases-loop-at
decreases-loop-at g l = length l.bytes - l.at
