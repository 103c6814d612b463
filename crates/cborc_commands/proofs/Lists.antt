-- Lists with one more item.
use Rattle.std.proofs.Common.{ℕ, ◌≡◌, List, [], ◌∷◌, ◌++◌, flat_map, sym, ap, ◌∙◌, append_assoc, append-nil}
use Rattle.std.specs.List.{AllByRecursion}
use Rattle.cbor_head.specs.Prelude.{Spelling}

pub all_with : {X : Type 0} → (P : X → Type 0) (xs : List X) (x : X) → AllByRecursion P xs → P x → AllByRecursion P (xs ++ x ∷ [])
all_with P [] x h p = (p, tt)
all_with P (y ∷ ys) x h p = (h.0, all_with P ys x h.1 p)

-- the texts of items and of one more
pub joined_with : (text : Spelling → List ℕ) (items : List Spelling) (item : Spelling) → flat_map text (items ++ item ∷ []) ≡ flat_map text items ++ text item
joined_with text [] item = append-nil (text item)
joined_with text (s ∷ ss) item = ap (λ (x : List ℕ). text s ++ x) (joined_with text ss item) ∙ sym (append_assoc (text s) (flat_map text ss) (text item))
