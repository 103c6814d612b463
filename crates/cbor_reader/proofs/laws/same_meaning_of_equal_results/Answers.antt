use Rattle.cbor_reader.proofs.laws.same_meaning_of_equal_results.Goals as goal
use Rattle.cbor_reader.proofs.Comparing.{meaning_by_results}

pub returns : goal.returns
returns c = meaning_by_results
