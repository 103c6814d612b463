-- A list read at an index.
use Rattle.std.proofs.Common.{◌≡◌, ℕ, zero, suc, ◌+◌, ◌<◌, List, [], ◌∷◌, length, drop, get_or, ap, sym, ◌∙◌, arith}
use Rattle.std.{proofs.lemmas.List.drop_more, specs.List.AllByRecursion}

-- an element that was read by index
pub at_read : {A : Type 0} (xs : List A) (i : ℕ) (x : A) → i < length xs → x ≡ get_or xs i x → drop i xs ≡ x ∷ drop (i + 1) xs
at_read xs i x h is = drop_more xs i x h ∙ ap (λ y. y ∷ drop (i + 1) xs) (sym is)

-- what holds of each holds of it
pub all_index : {X : Type 0} (P : X → Type 0) (xs : List X) (i : ℕ) (d : X) → AllByRecursion P xs → i < length xs → P (get_or xs i d)
all_index P [] i d a l = absurd (omega (arith, l))
all_index P (x ∷ xs) zero d a l = a.0
all_index P (x ∷ xs) (suc i) d a l = all_index P xs i d a.1 (omega (arith, l))
