use Rattle.theory_values.proofs.spelling_laws.complaints_within_a_beginning.Goals as goal
use Rattle.theory_values.proofs.Complaints.{complaints_reported}

pub returns : goal.returns
returns c = λ d p s t h i limits r e l k. (complaints_reported limits r).agree d s t p h.0 i.0 h.1 i.1 e l k
