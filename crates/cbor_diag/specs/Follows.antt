-- What may follow a text.
use Rattle.std.specs.Prelude.{ℕ, ◌<◌, ◌≢◌, ◌⊎◌, List, [], ◌∷◌}

-- a text ends there: nothing follows, or a byte that is neither a digit nor an opening parenthesis
abbrev pub Ends : List ℕ → Type 0
Ends [] = Unit {0}
Ends (c ∷ cs) = ((c < 48) ⊎ (57 < c)) × (c ≢ 40)
