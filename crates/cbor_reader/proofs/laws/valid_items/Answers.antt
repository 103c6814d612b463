use Rattle.cbor_reader.proofs.Headline.{prefix_keys, valid_item_accepted, valid_item_exactly, valid_item_value}
use Rattle.cbor_reader.proofs.laws.valid_items.Goals as goal
use Rattle.cbor_reader.proofs.ValidTexts.{plain_exactly}

pub returns-clause-complaints : goal.returns-clause-complaints
returns-clause-complaints c = plain_exactly

pub returns-clause-verdict : goal.returns-clause-verdict
returns-clause-verdict c = valid_item_exactly

pub returns-clause-value : goal.returns-clause-value
returns-clause-value c = valid_item_value

pub returns-clause-keys : goal.returns-clause-keys
returns-clause-keys c = λ limits input s basic i. prefix_keys limits input s basic (valid_item_accepted limits input s i)
