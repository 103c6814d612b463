use Rattle.std.proofs.Common.{sym}
use Rattle.naltvigo.proofs.indexing.naltvigo_index_raw.Goals as goal
use Rattle.naltvigo.proofs.WholeInputs.{reported-prefix}

pub returns-in-Err-clause-prefix : goal.returns-in-Err-clause-prefix
returns-in-Err-clause-prefix c = λ _.
    reported-prefix _ _ _ _ c.args.input.now _ _ (sym c.in-Some-limits_of.ensures.value.0) (sym c.in-Some.ensures.value.0) c.reported.ensures.1 c.in-Err.ensures.refused.prefix
