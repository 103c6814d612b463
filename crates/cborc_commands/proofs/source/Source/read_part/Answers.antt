use Rattle.std.proofs.Common.{refl}
use Rattle.cborc_commands.proofs.source.Source.read_part.Goals as goal
use Rattle.cborc_commands.{proofs.Sources.by_reading, specs.inner.Sources.IsNoPart}

pub returns-in-Err-clause-fault : goal.returns-in-Err-clause-fault
returns-in-Err-clause-fault g c =
    by_reading (IsNoPart (g.F.Folder.held c.args.files.now) c.args.path.now c.args.self.now) c.in-Err.fault c.of_reading.result _ c.of_reading.ensures.failed c.of_reading.ensures.memory
    (λ e. (refl, c.in-Err.ensures.missing e)) c.in-Err.ensures.memory
