use Rattle.theory_values.proofs.spelling_laws.keys_of_basic_kinds.Goals as goal
use Rattle.theory_values.proofs.BasicKeys.{basic_keys}

pub returns : goal.returns
returns c = basic_keys
