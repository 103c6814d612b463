use Rattle.theory_values.proofs.canonical_laws.canonical_bytes_are_spelled.Goals as goal
use Rattle.theory_values.proofs.Theorems.{canonical_spelled, spelling_is_canonical}

pub returns-clause-some : goal.returns-clause-some
returns-clause-some c = canonical_spelled

pub returns-clause-each : goal.returns-clause-each
returns-clause-each c = spelling_is_canonical
