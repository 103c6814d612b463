use Rattle.cbor_reader.proofs.WrittenParts.{is_read, is_valid_item, encoding}
use Rattle.cbor_reader.proofs.laws.written_parts_are_canonicalised.Goals as goal
use Rattle.cbor_reader.{proofs.WholeItems.tree_becomes, specs.Written.written}

pub returns-clause-item : goal.returns-clause-item
returns-clause-item c = λ limits v h g k d l. (encoding v, is_valid_item limits v h g k d l)

pub returns-clause-canonical : goal.returns-clause-canonical
returns-clause-canonical c = λ limits o v out h g k d l. tree_becomes limits o (written v) out v (is_read limits v h g k d l)
