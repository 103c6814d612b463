use Rattle.cbor_diag.proofs.laws.indented_text_determines_the_value.Goals as goal
use Rattle.cbor_diag.proofs.ReadBack.{reported-lines, equal-lines}

pub returns : goal.returns
returns c = record { reported = reported-lines; equal = equal-lines }
