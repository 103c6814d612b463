use Rattle.theory_values.proofs.ReadLaws.{unique, one_list, no_prefix}
use Rattle.theory_values.proofs.spelling_laws.one_spelling.Goals as goal

pub returns-clause-one : goal.returns-clause-one
returns-clause-one c = λ s t x y h i. unique s t h i x y

pub returns-clause-unique : goal.returns-clause-unique
returns-clause-unique c = λ s t h i. one_list s t h i

pub returns-clause-free : goal.returns-clause-free
returns-clause-free c = λ s t x h i. no_prefix s t x h i
