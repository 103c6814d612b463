use Rattle.cbor_head.specs.Prelude.{canonical_entries}
use Rattle.theory_values.proofs.Sorting.{rising_unique, in_order_rising, in_order_permutes}
use Rattle.theory_values.proofs.canonical_laws.pairs_in_the_one_order.Goals as goal
use Rattle.theory_values.proofs.{Members.in_contains, Members.contains_in, Reported.distinct_bytes}

pub returns-clause-rising : goal.returns-clause-rising
returns-clause-rising c = λ o es h d. in_order_rising o (canonical_entries o es) (distinct_bytes o es h d)

pub returns-clause-same_pairs : goal.returns-clause-same_pairs
returns-clause-same_pairs c = λ o es. in_order_permutes o (canonical_entries o es)

pub returns-clause-one : goal.returns-clause-one
returns-clause-one c = λ o ps qs u v f.
    rising_unique o ps qs u v (λ p m. contains_in qs p ((f p).0 (in_contains ps p m))) (λ p m. contains_in ps p ((f p).1 (in_contains qs p m)))
