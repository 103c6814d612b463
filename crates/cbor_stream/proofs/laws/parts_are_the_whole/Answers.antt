use Rattle.cbor_stream.proofs.laws.parts_are_the_whole.Goals as goal
use Rattle.cbor_stream.proofs.Said.{tells_one, of_whole}

pub returns-clause-one : goal.returns-clause-one
returns-clause-one c = tells_one

pub returns-clause-whole : goal.returns-clause-whole
returns-clause-whole c = of_whole
