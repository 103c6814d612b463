use Rattle.cbor_reader.proofs.Headline.{results_exactly, accepts_valid_items, refused_too_long}
use Rattle.cbor_reader.proofs.laws.inputs_with_results_are_valid_items.Goals as goal

pub returns-clause-accepted : goal.returns-clause-accepted
returns-clause-accepted c = accepts_valid_items

pub returns-clause-outcome : goal.returns-clause-outcome
returns-clause-outcome c = results_exactly

pub returns-clause-refused : goal.returns-clause-refused
returns-clause-refused c = refused_too_long
