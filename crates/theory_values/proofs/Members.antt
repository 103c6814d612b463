-- Membership in a list, by recursion.
use Rattle.std.proofs.Common.{◌≡◌, ℕ, zero, suc, ◌<◌, List, [], ◌∷◌, length, get_or, ◌⊎◌, inl, inr, refl, sym, subst, arith, Contains}
use Rattle.std.specs.List.{AllByRecursion}

abbrev pub In : {X : Type 0} → X → List X → Type 0
In x [] = ⊥
In x (y ∷ ys) = (x ≡ y) ⊎ In x ys

pub all_at : {X : Type 0} (P : X → Type 0) (xs : List X) (x : X) → AllByRecursion P xs → In x xs → P x
all_at P [] x a m = absurd m
all_at P (y ∷ ys) x a (inl e) = subst P (sym e) a.0
all_at P (y ∷ ys) x a (inr m) = all_at P ys x a.1 m

pub all_from : {X : Type 0} (P : X → Type 0) (xs : List X) → ((x : X) → In x xs → P x) → AllByRecursion P xs
all_from P [] f = tt
all_from P (y ∷ ys) f = (f y (inl refl), all_from P ys (λ x m. f x (inr m)))

pub in_contains : {X : Type 0} (xs : List X) (x : X) → In x xs → Contains xs x
in_contains [] x m = absurd m
in_contains (y ∷ ys) x (inl e) = (zero, omega arith, sym e)
in_contains (y ∷ ys) x (inr m) = let r = in_contains ys x m in (suc r.0, omega arith, r.2)

pub at_in : {X : Type 0} (xs : List X) (x : X) (k : ℕ) → k < length xs → get_or xs k x ≡ x → In x xs
at_in [] x k l e = absurd (omega arith)
at_in (y ∷ ys) x zero l e = inl (sym e)
at_in (y ∷ ys) x (suc k) l e = inr (at_in ys x k (omega arith) e)

pub contains_in : {X : Type 0} (xs : List X) (x : X) → Contains xs x → In x xs
contains_in xs x c = at_in xs x c.0 c.1 c.2
