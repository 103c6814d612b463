use Rattle.std.proofs.Common.{refl, sym}
use Rattle.theory_values.proofs.Verdicts.{nothing_begins, beginning_prefix, longest_one, item_one, whole_longest}
use Rattle.theory_values.proofs.spelling_laws.beginnings.Goals as goal

pub returns-clause-empty : goal.returns-clause-empty
returns-clause-empty c = nothing_begins

pub returns-clause-prefixes : goal.returns-clause-prefixes
returns-clause-prefixes c = beginning_prefix

pub returns-clause-longest : goal.returns-clause-longest
returns-clause-longest c = longest_one

pub returns-clause-item : goal.returns-clause-item
returns-clause-item c = λ d b s rest h. whole_longest d s b rest (record { spelled = h.0; within = h.1; bytes_are = refl }) (sym h.2)

pub returns-clause-whole : goal.returns-clause-whole
returns-clause-whole c = λ d s t p i h. (item_one d s t p h.0 i h.1).0
