use Rattle.cbor_reader.proofs.laws.equal_results_of_same_values.Goals as goal
use Rattle.cbor_reader.proofs.Headline.{equal_exactly}

pub returns : goal.returns
returns c = equal_exactly
