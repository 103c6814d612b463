use Rattle.cbor_head.{specs.declared.major.Major.TheVariants.Unsigned, proofs.Least.least, proofs.Least.only}
use Rattle.theory_values.proofs.spelling_laws.shortest_is_least.Goals as goal

pub returns-clause-holds : goal.returns-clause-holds
returns-clause-holds c = λ w n h. (least Unsigned w n h).0

pub returns-clause-least : goal.returns-clause-least
returns-clause-least c = λ m w n h. (least m w n h).1

pub returns-clause-only : goal.returns-clause-only
returns-clause-only c = λ m w n h. only m w n h
