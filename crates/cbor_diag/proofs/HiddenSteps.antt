-- A search for a character that a terminal does not show, a byte further on.
use Rattle.std.proofs.Common.{ℕ, ◌<◌, ◌≡◌, ◌+◌, ◌-◌, ◌||◌, List, length, take, drop, false, sym, ap, ◌∙◌}
use Rattle.std.proofs.lemmas.List.{at_drop_more, take_rest}
use Rattle.cbor_diag.specs.Hidden.{begins_hidden, has_hidden}

-- the search so far found none
abbrev pub NoneBefore : List ℕ → ℕ → Type 0
NoneBefore text i = has_hidden text ≡ has_hidden (drop i text)

-- the beginning of the bytes from an index on
begins_at : (text : List ℕ) (i : ℕ) → i < length text → begins_hidden (take (length text - i) (drop i text)) ≡ begins_hidden (drop i text)
begins_at text i within = ap begins_hidden (take_rest text i)

pub none_yet : (text : List ℕ) (i : ℕ) → i < length text → NoneBefore text i → begins_hidden (take (length text - i) (drop i text)) ≡ false → NoneBefore text (i + 1)
none_yet text i within none begins =
    none ∙ at_drop_more has_hidden text i 0 within
    ∙ ap (λ b. b || has_hidden (drop (i + 1) text)) (sym (at_drop_more begins_hidden text i 0 within) ∙ (sym (begins_at text i within) ∙ begins))
