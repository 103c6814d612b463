use Rattle.cbor_reader.proofs.Readings.{one_value, one_unread, read_or_unread}
use Rattle.cbor_reader.proofs.laws.one_reading.Goals as goal

pub returns-clause-value : goal.returns-clause-value
returns-clause-value c = one_value

pub returns-clause-refusal : goal.returns-clause-refusal
returns-clause-refusal c = one_unread

pub returns-clause-either : goal.returns-clause-either
returns-clause-either c = read_or_unread
