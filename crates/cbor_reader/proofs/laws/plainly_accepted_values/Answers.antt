use Rattle.cbor_head.specs.Prelude.{plain}
use Rattle.theory_verdicts.proofs.Accepted.{item_within_limit}
use Rattle.cbor_reader.proofs.Headline.{prefix_range, prefix_valid, prefix_depth, prefix_keys}
use Rattle.cbor_reader.proofs.laws.plainly_accepted_values.Goals as goal

pub returns-clause-range : goal.returns-clause-range
returns-clause-range c = λ limits input s. prefix_range limits plain input s

pub returns-clause-valid : goal.returns-clause-valid
returns-clause-valid c = prefix_valid

pub returns-clause-depth : goal.returns-clause-depth
returns-clause-depth c = λ limits input s. prefix_depth limits plain input s

pub returns-clause-fits : goal.returns-clause-fits
returns-clause-fits c = λ limits input s. item_within_limit limits plain input s

pub returns-clause-keys : goal.returns-clause-keys
returns-clause-keys c = prefix_keys
