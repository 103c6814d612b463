use Rattle.std.proofs.Common.{ap}
use Rattle.cbor_strict.proofs.strict_reader.StrictReader.new.Goals as goal

pub returns-clause-limits : goal.returns-clause-limits
returns-clause-limits g c = (ap (λ b. b.depth) c.new.ensures.limits, ap (λ b. b.bytes) c.new.ensures.limits)

pub returns-clause-keys : goal.returns-clause-keys
returns-clause-keys g c = ap (λ b. b.keys) c.new.ensures.limits
