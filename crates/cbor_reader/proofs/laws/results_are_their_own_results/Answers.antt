use Rattle.cbor_reader.proofs.laws.results_are_their_own_results.Goals as goal
use Rattle.cbor_reader.proofs.Headline.{again}

pub returns : goal.returns
returns c = again
