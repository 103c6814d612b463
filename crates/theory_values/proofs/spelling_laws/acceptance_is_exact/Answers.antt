use Rattle.theory_values.proofs.spelling_laws.acceptance_is_exact.Goals as goal
use Rattle.theory_values.proofs.Accepted.{accepts_exactly}

pub returns : goal.returns
returns c = accepts_exactly
