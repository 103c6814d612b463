-- How many containers are open in a stack, and those around the innermost one.
use Rattle.std.proofs.Common.{◌≡◌, ℕ, suc, ◌<◌, ◌≤◌, List, [], ◌∷◌, length, take, sym, ap, ◌∙◌, refl, reverse, arith, length-take-le}
use Rattle.std.proofs.lemmas.List.{length-reverse}
use Rattle.cbor_parser.specs.{Stack.around, Stack.open_levels, declared.stack.Stack.Stack}

pub open_levels_count : (L : Type 0) (s : Stack L) (cells : List L) → s.height ≤ length cells → length (open_levels L s cells) ≡ suc s.height
open_levels_count L s cells l = ap suc (length-reverse (take s.height cells) ∙ length-take-le s.height cells l)

-- ---- those around the innermost one

split : (L : Type 0) (xs : List L) → 0 < length xs → (x : L) × (ys : List L) × (xs ≡ x ∷ ys)
split L [] low = absurd (omega (arith, low))
split L (x ∷ xs) low = (x, xs, refl)

-- there is one
pub others : (L : Type 0) (s : Stack L) (cells : List L) → s.height ≤ length cells → 0 < s.height → (x : L) × (ys : List L) × (around L s cells ≡ x ∷ ys)
others L s cells low some = split L (around L s cells) (omega (arith, some, open_levels_count L s cells low))

-- there is none
pub no_others : (L : Type 0) (s : Stack L) (cells : List L) → s.height ≤ 0 → around L s cells ≡ []
no_others L s cells none = let e : s.height ≡ 0 = omega (arith, none) in ap (λ (n : ℕ). reverse (take n cells)) e

-- of the input alone
pub start_levels : (L : Type 0) (s : Stack L) (x : L) (cells : List L) → s.height ≡ 0 → s.top ≡ x → x ∷ [] ≡ open_levels L s cells
start_levels L s x cells none top = sym (ap (λ (y : L). y ∷ around L s cells) top ∙ ap (λ (n : ℕ). x ∷ reverse (take n cells)) none)
