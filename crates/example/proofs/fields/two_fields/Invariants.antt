use Rattle.std.proofs.Common.{length}
use Rattle.example.proofs.fields.two_fields.Given as goal
use Rattle.example.specs.Fields.{AreRows}

abbrev pub invariant-records : goal.invariant-records
invariant-records l = AreRows l.fn.limits l.fn.first l.fn.second l.fn.records l.rows.items l.rest

abbrev pub decreases-records : goal.decreases-records
decreases-records l = length l.rest
