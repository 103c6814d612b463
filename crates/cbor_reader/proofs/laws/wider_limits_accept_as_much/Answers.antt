use Rattle.cbor_reader.proofs.laws.wider_limits_accept_as_much.Goals as goal
use Rattle.cbor_reader.proofs.Readings.{accepted_wider}

pub returns : goal.returns
returns c = accepted_wider
