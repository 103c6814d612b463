use Rattle.cbor_head.specs.Prelude.{accepted, refused}
use Rattle.theory_verdicts.proofs.Further.{further}
use Rattle.cbor_reader.proofs.laws.prefixes_decide.Goals as goal

pub returns-clause-accepted : goal.returns-clause-accepted
returns-clause-accepted c = λ limits r prefix following s v. further limits r prefix following (accepted s) v tt

pub returns-clause-refused : goal.returns-clause-refused
returns-clause-refused c = λ limits r prefix following f v apart. further limits r prefix following (refused f) v apart
