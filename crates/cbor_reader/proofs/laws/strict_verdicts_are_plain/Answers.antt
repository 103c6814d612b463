use Rattle.theory_values.proofs.PlainVerdicts.{accepted_plainly, refused_plainly}
use Rattle.cbor_reader.proofs.laws.strict_verdicts_are_plain.Goals as goal

pub returns : goal.returns
returns c = record { accepted = accepted_plainly; refused = refused_plainly }
