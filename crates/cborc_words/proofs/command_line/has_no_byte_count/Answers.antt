use Rattle.std.proofs.Common.{List}
use Rattle.clap.specs.Words.{Row}
use Rattle.cborc_words.proofs.command_line.has_no_byte_count.Goals as goal
use Rattle.cborc_words.{proofs.Given.of_rows, specs.CommandLine.HasNoByteCount}

pub returns-in-Some-clause-no : goal.returns-in-Some-clause-no
returns-in-Some-clause-no c no_count = of_rows (λ (rows : List Row). ¬ HasNoByteCount rows) _ _ c.in-Some.ensures.rows (c.is_no_byte_count.ensures.no no_count)
