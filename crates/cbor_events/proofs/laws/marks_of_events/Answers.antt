use Rattle.theory_automaton.proofs.Rows.{events-row}
use Rattle.cbor_events.proofs.laws.marks_of_events.Goals as goal

pub returns-clause-marks : goal.returns-clause-marks
returns-clause-marks c = λ s h. (events-row 0 s h).marks

pub returns-clause-bytes : goal.returns-clause-bytes
returns-clause-bytes c = λ s h. (events-row 0 s h).bytes
