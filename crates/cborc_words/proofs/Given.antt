-- The values of a subcommand, by the rows of its matches.
use Rattle.std.proofs.Common.{◌≡◌, List, Option, Some, None, IfSome, option_map, subst}
use Rattle.std.proofs.lemmas.Option.{same_Some}
use Rattle.clap.specs.Words.{Row, Text}

-- what holds of the rows holds of the subcommand's values
pub of_rows : (P : List Row → Type 0) (rows : List Row) (given : Option (Text × List Row)) → Some rows ≡ option_map (λ (it : Text × List Row). it.1) given → P rows
    → IfSome given (λ it. P it.1)
of_rows P rows None same holds = tt
of_rows P rows (Some it) same holds = subst P (same_Some rows it.1 same) holds
