use Rattle.std.proofs.Common.{arith}
use Rattle.cborc_files.proofs.disk.DiskFolder.read_on.Goals as goal
use Rattle.cborc_files.proofs.Appended.{some_file}

pub returns-in-Ok-clause-gives : goal.returns-in-Ok-clause-gives
returns-in-Ok-clause-gives g c =
    some_file c.args.path.now c.args.from c.args.most _ c.args.bytes.now.items c.append_next.new.bytes.items c.in-Ok.ensures (omega (arith, c.min-most.ensures))
