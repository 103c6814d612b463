use Rattle.theory_values.proofs.canonical_laws.spelling_is_as_deep_as_its_value.Goals as goal
use Rattle.theory_values.proofs.Depth.{depth-value_of}

pub returns : goal.returns
returns c = depth-value_of
