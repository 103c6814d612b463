use Rattle.example.proofs.fields.integer_at.Goals as goal
use Rattle.example.proofs.Rows.{integer_found}

pub returns-in-Some : goal.returns-in-Some
returns-in-Some c = integer_found _ _ _ _ c.in-Some.ensures c.as_i64.ensures
