use Rattle.std.proofs.Common.{arith}
use Rattle.cbor_reader.proofs.key_bytes.KeyBytesSink.begin.Goals as goal
use Rattle.cbor_reader.proofs.KeysGiven.{takes, few}

pub begin-requires-clause-takes : goal.begin-requires-clause-takes
begin-requires-clause-takes c = takes c.args.is_key c.args.self.now c.requires.expected

pub overflow_add-self : goal.overflow_add-self
overflow_add-self c = omega (arith, few c.args.is_key c.args.self.now c.requires.expected)
