-- What a builder of canonical bytes holds after some parts of an item.
use Rattle.std.specs.Prelude.{ℕ, ◌≡◌, Bool, List, [], ◌∷◌}
use Rattle.cbor_head.specs.Prelude.{canonical, value_of}
use Rattle.theory_values.specs.Parts as parts
use Rattle.cbor_builder.specs.Built.{Built}
use Rattle.theory_verdicts.specs.Levels.{Level, ParseState, item_expected, item_full, item_whole}
use Rattle.theory_verdicts.specs.{Given.opens, Given.IsFull, Reading.string_major}

-- in its order of keys, it holds the canonical bytes of what is complete
abbrev pub canon_agrees : Built → Built → ParseState → Type 0
canon_agrees start g (item_expected ls) = (g.order ≡ start.order) × (g.open_levels ≡ opens start.order ls)
canon_agrees start g (item_full ls s) =
    (g.order ≡ start.order) × ((d : ℕ) × (c : parts.Open) × IsFull start.order d c s × (g.open_levels ≡ c ∷ opens start.order ls))
canon_agrees start g (item_whole s) = (g.order ≡ start.order) × (g.open_levels ≡ parts.plain (canonical start.order (value_of s)) ∷ [])

-- within a string, it also holds the content so far
abbrev pub canon_holds : Built → Built → List Level → Bool → List ℕ → Type 0
canon_holds start g ls is_text content =
    (g.order ≡ start.order) × (g.open_levels ≡ parts.a_string (string_major is_text) content ∷ opens start.order ls)
