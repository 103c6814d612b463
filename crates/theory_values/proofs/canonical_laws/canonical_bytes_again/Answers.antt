use Rattle.theory_values.proofs.canonical_laws.canonical_bytes_again.Goals as goal
use Rattle.theory_values.proofs.Theorems.{canonical_again}

pub returns : goal.returns
returns c = canonical_again
