use Rattle.std.proofs.Common.{refl, sym, subst}
use Rattle.cbor_head.specs.{Value.Same, Canonical.canonical}
use Rattle.theory_values.proofs.NormalValue.{value_of-normal}
use Rattle.cbor_cursor.proofs.laws.encoded_values_are_read_back.Goals as goal
use Rattle.cbor_cursor.proofs.NormalValues.{decoded_normal}

pub returns : goal.returns
returns c = λ o v h. subst (Same v) (sym (decoded_normal o v (canonical o v) h refl)) (value_of-normal o v)
