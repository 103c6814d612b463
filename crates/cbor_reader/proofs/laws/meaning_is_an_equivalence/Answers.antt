use Rattle.cbor_reader.proofs.Comparing.{meaning_itself, meaning_back, meaning_on}
use Rattle.cbor_reader.proofs.laws.meaning_is_an_equivalence.Goals as goal

pub returns-clause-reflexive : goal.returns-clause-reflexive
returns-clause-reflexive c = meaning_itself

pub returns-clause-symmetric : goal.returns-clause-symmetric
returns-clause-symmetric c = meaning_back

pub returns-clause-transitive : goal.returns-clause-transitive
returns-clause-transitive c = meaning_on
