use Rattle.cbor_reader.proofs.SequenceLaws.{ends_exactly, no_bytes, no_bytes_reported}
use Rattle.cbor_reader.proofs.sequence_laws.inputs_without_an_item.Goals as goal

pub returns-clause-ended : goal.returns-clause-ended
returns-clause-ended c = ends_exactly

pub returns-clause-no_bytes : goal.returns-clause-no_bytes
returns-clause-no_bytes c = no_bytes

pub returns-clause-reported : goal.returns-clause-reported
returns-clause-reported c = no_bytes_reported
