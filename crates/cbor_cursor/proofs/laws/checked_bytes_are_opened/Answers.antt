use Rattle.std.proofs.Common.{List, ℕ, length, take, refl, sym, ap, ◌∙◌, subst}
use Rattle.std.proofs.lemmas.List.{take_at}
use Rattle.cbor_head.specs.{Value.Same, Canonical.canonical}
use Rattle.theory_values.proofs.{NormalValue.value_of-normal, Reported.reported}
use Rattle.cbor_cursor.proofs.laws.checked_bytes_are_opened.Goals as goal
use Rattle.cbor_cursor.proofs.NormalValues.{decoded_normal}

pub returns-clause-accepted : goal.returns-clause-accepted
returns-clause-accepted c = λ limits o input count p none. none p.value p.begins

pub returns-clause-count : goal.returns-clause-count
returns-clause-count c = λ limits o input m n p q.
    let r = reported o o p.value q.value p.begins.range q.begins.range p.begins.rest q.begins.rest (p.begins.begins ∙ sym q.begins.begins) in
    p.size ∙ ap length r.bytes_are ∙ sym q.size

pub returns-clause-value : goal.returns-clause-value
returns-clause-value c = λ limits o input v b. subst (Same v) (sym (decoded_normal o v _ b.range (ap (λ (l : List ℕ). take (length (canonical o v)) l) (sym b.begins) ∙ take_at (canonical o v) b.rest _ refl))) (value_of-normal o v)
