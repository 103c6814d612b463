use Rattle.std.proofs.Common.{ap, Ok}
use Rattle.cbor_reader.proofs.canonical_reader.read_canonical_in.Goals as goal

pub returns-in_err-size-clause-own : goal.returns-in_err-size-clause-own
returns-in_err-size-clause-own c = λ v b. absurd (c.in_err-size.ensures.no_canonical v b)

pub returns-in-Err-clause-own : goal.returns-in-Err-clause-own
returns-in-Err-clause-own c = λ v b. absurd (c.in_ok-size.ensures.none (ap Ok c.in-None.is) v b)

pub returns-in-Ok-clause-borrowed : goal.returns-in-Ok-clause-borrowed
returns-in-Ok-clause-borrowed c = λ v b. c.in_ok-size.ensures.none (ap Ok c.in-None.is) v b
