use Rattle.theory_values.proofs.Sameness.{Same-refl, Same-sym, Same-trans}
use Rattle.theory_values.proofs.canonical_laws.sameness_is_an_equivalence.Goals as goal

pub returns-clause-reflexive : goal.returns-clause-reflexive
returns-clause-reflexive c = Same-refl

pub returns-clause-symmetric : goal.returns-clause-symmetric
returns-clause-symmetric c = Same-sym

pub returns-clause-transitive : goal.returns-clause-transitive
returns-clause-transitive c = Same-trans
