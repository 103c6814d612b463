-- The last key before another one.
use Rattle.std.specs.Prelude.{◌≡◌, ℕ, List, [], ◌∷◌}
use Rattle.cbor_head.specs.Prelude.{Spelling, SpelledEntries, no_entries, entry, spell}

-- the bytes of the last key of these pairs; none if there is no pair
abbrev pub last_key : SpelledEntries → List ℕ
last_key no_entries = []
last_key (entry k v no_entries) = spell k
last_key (entry k v (entry l w es)) = last_key (entry l w es)

-- the bytes of the last key, which is listed first; none before the first key
abbrev pub IsLastKey : List ℕ → List Spelling → Type 0
IsLastKey last [] = last ≡ []
IsLastKey last (k ∷ ks) = last ≡ spell k
