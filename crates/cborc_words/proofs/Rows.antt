-- What clap's getters return, by the rows.
use Rattle.clap.proofs.WalkLemmas.{first_value-rows, one_text-rows, raw_values-rows}

pub ruleset getters = (first_value-rows, one_text-rows, raw_values-rows)
