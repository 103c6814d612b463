use Rattle.std.proofs.Common.{arith}
use Rattle.cborc_files.proofs.Appended.{some_file}
use Rattle.cborc_tests.proofs.tests.streams.EndlessFolder.read_on.Goals as goal

pub returns-in-Ok-clause-gives : goal.returns-in-Ok-clause-gives
returns-in-Ok-clause-gives c =
    some_file _ c.args.from c.args.most _ c.args.bytes.now.items c.append_from.new.bytes.items c.in-Ok.ensures.few (omega (arith, c.min-most.ensures))
