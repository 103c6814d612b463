use Rattle.std.proofs.Common.{[], sym, ◌∙◌, append-nil}
use Rattle.theory_values.proofs.canonical_laws.canonical_bytes_determine_the_value.Goals as goal
use Rattle.theory_values.proofs.Reported.{reported}

pub returns-clause-reported : goal.returns-clause-reported
returns-clause-reported c = λ o p v w x y h g e. let r = reported o p v w h g x y e in (r.same, r.bytes_are, r.rest)

pub returns-clause-whole : goal.returns-clause-whole
returns-clause-whole c = λ o p v w x h g e. (reported o p v w h g x [] (e ∙ sym (append-nil _))).rest
