use Rattle.cborc_files.proofs.disk.append_from.Given as goal
use Rattle.cborc_files.proofs.Appended.{IsTaken}

abbrev pub invariant-reads : goal.invariant-reads
invariant-reads g l = IsTaken l.fn.most l.left (g.S.Read.remaining l.fn.source) (g.S.Read.remaining l.source) l.fn.bytes.items l.bytes.items
