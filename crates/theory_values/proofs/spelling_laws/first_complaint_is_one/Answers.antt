use Rattle.cbor_head.specs.Prelude.{IsComplaint}
use Rattle.theory_values.proofs.Complaints.{complaints_reported, one_first, first_for_each}
use Rattle.theory_values.proofs.spelling_laws.first_complaint_is_one.Goals as goal

pub returns-clause-one : goal.returns-clause-one
returns-clause-one c = λ limits r s t e f h i. one_first (IsComplaint limits r) (complaints_reported limits r) s t e f h i

pub returns-clause-each : goal.returns-clause-each
returns-clause-each c = λ d p s t h i limits r e f. first_for_each (IsComplaint limits r) (complaints_reported limits r) d s t p h.0 i.0 h.1 i.1 e f
