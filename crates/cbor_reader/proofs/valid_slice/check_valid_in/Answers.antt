use Rattle.std.proofs.Common.{ap, Ok}
use Rattle.cbor_reader.proofs.valid_slice.check_valid_in.Goals as goal

pub returns-in_err-size-clause-own : goal.returns-in_err-size-clause-own
returns-in_err-size-clause-own c = λ v b. absurd (c.in_err-size.ensures.no_canonical v b)

pub returns-in-None-clause-own : goal.returns-in-None-clause-own
returns-in-None-clause-own c = λ v b. absurd (c.in_ok-size.ensures.none (ap Ok c.in-None.is) v b)
