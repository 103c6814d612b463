use Rattle.cbor_reader.proofs.sequence_laws.items_of_sequences.Goals as goal
use Rattle.cbor_reader.proofs.SequenceLaws.{tree_items, strict_items}

pub returns-clause-plain : goal.returns-clause-plain
returns-clause-plain c = tree_items

pub returns-clause-strict : goal.returns-clause-strict
returns-clause-strict c = strict_items
