use Rattle.cbor_diag.proofs.laws.text_determines_the_value.Goals as goal
use Rattle.cbor_diag.proofs.ReadBack.{reported-line, equal-line}

pub returns : goal.returns
returns c = record { reported = reported-line; equal = equal-line }
