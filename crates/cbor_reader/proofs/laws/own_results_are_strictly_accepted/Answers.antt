use Rattle.cbor_reader.proofs.laws.own_results_are_strictly_accepted.Goals as goal
use Rattle.cbor_reader.proofs.OwnResults.{own_results_exactly}

pub returns : goal.returns
returns c = own_results_exactly
