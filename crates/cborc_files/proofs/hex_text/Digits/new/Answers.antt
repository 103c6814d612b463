use Rattle.cborc_files.proofs.hex_text.Digits.new.Goals as goal
use Rattle.cborc_files.proofs.Spelled.{none_yet}

pub returns-clause-none : goal.returns-clause-none
returns-clause-none c = none_yet _ _
