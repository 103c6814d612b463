use Rattle.std.proofs.Common.{List, ◌≡◌, ◌∷◌}
use Rattle.cbor_head.specs.Prelude.{Pair}
use Rattle.theory_values.specs.Parts.{a_map}
use Rattle.cbor_item_tests.proofs.tests.repeats.open_map.Given as goal

abbrev pub invariant-loop-key : goal.invariant-loop-key
invariant-loop-key l = (ps : List Pair) × (l.builder.open_levels ≡ a_map ps ∷ l.fn.builder.open_levels)
