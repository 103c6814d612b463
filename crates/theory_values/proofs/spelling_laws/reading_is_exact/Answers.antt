use Rattle.theory_values.proofs.spelling_laws.reading_is_exact.Goals as goal
use Rattle.theory_values.proofs.Exact.{reads_exactly, reads_none}

pub returns-clause-found : goal.returns-clause-found
returns-clause-found c = reads_exactly

pub returns-clause-none : goal.returns-clause-none
returns-clause-none c = reads_none
