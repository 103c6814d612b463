use Rattle.std.proofs.Common.{inl, inr}
use Rattle.cbor_item.specs.ViewValue.{view_value}
use Rattle.example.proofs.fields.row_at.Goals as goal
use Rattle.example.proofs.Rows.{count_within}

pub returns-clause-size : goal.returns-clause-size
returns-clause-size c = count_within _ _ _ _ c.in_ok-record.ensures.accepted

pub returns-in_default-clause-fault : goal.returns-in_default-clause-fault
returns-in_default-clause-fault c = (view_value c.in_ok-record.record, c.in_ok-record.size, c.in_ok-record.ensures.accepted, inl c.in_default.ensures)

pub returns-in_default-integer_at-clause-fault : goal.returns-in_default-integer_at-clause-fault
returns-in_default-integer_at-clause-fault c = (view_value c.in_ok-record.record, c.in_ok-record.size, c.in_ok-record.ensures.accepted, inr c.in_default-integer_at.ensures)
