use Rattle.theory_verdicts.proofs.Within.{verdict_within}
use Rattle.cbor_reader.proofs.laws.refusals_are_within_the_input.Goals as goal
use Rattle.cbor_reader.proofs.{CanonicaliserRefusals.refusal_within, Readings.unread_within}

pub returns-clause-verdict : goal.returns-clause-verdict
returns-clause-verdict c = λ limits r input f. verdict_within limits input r f

pub returns-clause-unread : goal.returns-clause-unread
returns-clause-unread c = λ limits r input f. unread_within limits r input f

pub returns-clause-outcome : goal.returns-clause-outcome
returns-clause-outcome c = λ limits o input f. refusal_within limits input o f
