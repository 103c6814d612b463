use Rattle.theory_values.proofs.KindsUnasked.{any_complaint, any_first, any_none, any_verdict}
use Rattle.theory_values.proofs.spelling_laws.keys_of_any_kind.Goals as goal

pub returns-clause-complaints : goal.returns-clause-complaints
returns-clause-complaints c = λ limits r s e any. any_complaint limits r any s e

pub returns-clause-first : goal.returns-clause-first
returns-clause-first c = λ limits r s t e any. any_first limits r any s t e

pub returns-clause-without : goal.returns-clause-without
returns-clause-without c = λ limits r s t any. any_none limits r any s t

pub returns-clause-verdict : goal.returns-clause-verdict
returns-clause-verdict c = λ limits r input x any. any_verdict limits r any input x
