use Rattle.cbor_head.specs.Prelude.{IsComplaint}
use Rattle.theory_values.proofs.spelling_laws.verdict_is_one.Goals as goal
use Rattle.theory_values.proofs.{Complaints.complaints_reported, OneVerdict.one_verdict, OneVerdict.decides_for_each}

pub returns-clause-one : goal.returns-clause-one
returns-clause-one c = one_verdict

pub returns-clause-each : goal.returns-clause-each
returns-clause-each c = λ limits r p following s t h i. decides_for_each (IsComplaint limits r) (complaints_reported limits r) limits p following s t h.0 i.0 h.1 i.1
