use Rattle.theory_values.proofs.canonical_laws.strict_spelling_is_canonical.Goals as goal
use Rattle.theory_values.proofs.Theorems.{strict_exactly}

pub returns : goal.returns
returns c = λ o s h f. let r = strict_exactly o s h f in (r.range, r.valid, r.canonical_is)
