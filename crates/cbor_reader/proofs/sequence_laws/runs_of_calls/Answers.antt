use Rattle.cbor_reader.proofs.SequenceLaws.{starts, by_one, one_more}
use Rattle.cbor_reader.proofs.sequence_laws.runs_of_calls.Goals as goal
use Rattle.cbor_reader.proofs.Sequences.{gives_value, gives_count}

pub returns-clause-starts : goal.returns-clause-starts
returns-clause-starts c = starts

pub returns-clause-value : goal.returns-clause-value
returns-clause-value c = gives_value

pub returns-clause-count : goal.returns-clause-count
returns-clause-count c = gives_count

pub returns-clause-by_one : goal.returns-clause-by_one
returns-clause-by_one c = by_one

pub returns-clause-one_more : goal.returns-clause-one_more
returns-clause-one_more c = one_more
