use Rattle.std.proofs.Common.{◌∙◌}
use Rattle.cbor_head.specs.Prelude.{value_of}
use Rattle.theory_verdicts.proofs.CanonicalPrefixes.{strict_bytes, strict_value, strict_accepts, one_prefix}
use Rattle.cbor_reader.proofs.laws.strictly_accepted_prefixes.Goals as goal

pub returns-clause-accepted : goal.returns-clause-accepted
returns-clause-accepted c = λ limits o input. ((λ (s, h). (value_of s, strict_value limits o input s h)), (λ (v, h). strict_accepts limits o input v h))

pub returns-clause-value : goal.returns-clause-value
returns-clause-value c = strict_value

pub returns-clause-taken : goal.returns-clause-taken
returns-clause-taken c = λ limits o input s v h b.
    let r = one_prefix limits o input (value_of s) v (strict_value limits o input s h) b in
    (strict_bytes limits o input s h ∙ r.1, r.0)

pub returns-clause-one : goal.returns-clause-one
returns-clause-one c = one_prefix
