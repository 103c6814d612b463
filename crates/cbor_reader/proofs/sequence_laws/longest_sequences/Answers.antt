use Rattle.cbor_reader.proofs.SequenceLaws.{longest_at_end, whole_at_end, longest_at_refusal, verdict_on_rest, one_longest}
use Rattle.cbor_reader.proofs.sequence_laws.longest_sequences.Goals as goal

pub returns-clause-ended : goal.returns-clause-ended
returns-clause-ended c = λ r b held to input given run. longest_at_end b held to input given run r

pub returns-clause-whole : goal.returns-clause-whole
returns-clause-whole c = whole_at_end

pub returns-clause-refused : goal.returns-clause-refused
returns-clause-refused c = λ r b held to input given f run. longest_at_refusal b held to input given run r f

pub returns-clause-verdict : goal.returns-clause-verdict
returns-clause-verdict c = λ r b held to input given f run. verdict_on_rest b held to input given run r f

pub returns-clause-one : goal.returns-clause-one
returns-clause-one c = one_longest
