-- How keys compare: in both orders, and piece by piece.
use Rattle.std.proofs.Common.{◌≡◌, ◌⊎◌, ℕ, ◌-◌, ◌<◌, ◌≤◌, List, [], ◌∷◌, ◌++◌, length, get_or, take, drop, length-drop, refl, ap, ◌∙◌, arith, IsTrue, inl, inr}
use Rattle.std.specs.declared.cmp.Ordering.TheVariants.{Less, Equal, Greater}
use Rattle.std.specs.Ordering.{nat_cmp, is_lt, ordering_then, ordering_reverse, MatchOrdering}
use Rattle.std.{proofs.lemmas.Cmp.ranked, specs.declared.cmp.Ordering.Ordering, specs.Cmp.Lexicographic.slice_cmp}
use Rattle.cbor_head.specs.{Prelude.key_cmp, Prelude.key_lt, declared.order.KeyOrder.KeyOrder}
use Rattle.cbor_head.specs.declared.order.KeyOrder.TheVariants.{Bytewise, LengthFirst}
use Rattle.theory_values.proofs.Orders.{key_cmp_total}

-- one that is no shorter, and comes after the other bytewise
pub after_in_both : (xs ys : List ℕ) → length ys ≤ length xs → key_cmp Bytewise xs ys ≡ Greater → (o : KeyOrder) → IsTrue (key_lt o ys xs)
after_in_both xs ys l e Bytewise = ap is_lt ((key_cmp_total Bytewise).antisymm ys xs ∙ ap ordering_reverse e)
after_in_both xs ys l e LengthFirst = go (nat_cmp (length ys) (length xs)) refl (ranked (length ys) (length xs) (nat_cmp (length ys) (length xs)) refl)
  where
    go : (r : Ordering) → nat_cmp (length ys) (length xs) ≡ r → MatchOrdering r (length ys < length xs) (length ys ≡ length xs) (length xs < length ys) → IsTrue (key_lt LengthFirst ys xs)
    go Less c m = ap (λ (r : Ordering). is_lt (ordering_then r (slice_cmp nat_cmp ys xs))) c
    go Equal c m = ap (λ (r : Ordering). is_lt (ordering_then r (slice_cmp nat_cmp ys xs))) c ∙ ap is_lt ((key_cmp_total Bytewise).antisymm ys xs ∙ ap ordering_reverse e)
    go Greater c m = absurd (omega (arith, l, m))

-- a shorter one comes before
pub shorter_first : (xs ys : List ℕ) → length xs < length ys → IsTrue (key_lt LengthFirst ys xs) → ⊥
shorter_first xs ys l h = go (nat_cmp (length ys) (length xs)) refl (ranked (length ys) (length xs) (nat_cmp (length ys) (length xs)) refl)
  where
    go : (r : Ordering) → nat_cmp (length ys) (length xs) ≡ r → MatchOrdering r (length ys < length xs) (length ys ≡ length xs) (length xs < length ys) → ⊥
    go Less c m = omega (arith, l, m)
    go Equal c m = omega (arith, l, m)
    go Greater c m = let f = ap (λ (r : Ordering). is_lt (ordering_then r (slice_cmp nat_cmp ys xs))) c in cc (f, h)

-- ---- comparisons of parts

-- the comparison if one of them is at its end
pub cmp_ended : (at : ℕ) (xs ys : List ℕ) → at ≤ length xs → at ≤ length ys → (length xs ≤ at) ⊎ (length ys ≤ at) → nat_cmp (length xs) (length ys) ≡ slice_cmp nat_cmp (drop at xs) (drop at ys)
cmp_ended at xs ys l m ended = go (drop at xs) (drop at ys) (length-drop at xs) (length-drop at ys) (nat_cmp (length xs) (length ys)) refl (ranked (length xs) (length ys) (nat_cmp (length xs) (length ys)) refl)
  where
    go : (ps qs : List ℕ) → length ps ≡ length xs - at → length qs ≡ length ys - at → (r : Ordering) → nat_cmp (length xs) (length ys) ≡ r → MatchOrdering r (length xs < length ys) (length xs ≡ length ys) (length ys < length xs)
        → nat_cmp (length xs) (length ys) ≡ slice_cmp nat_cmp ps qs
    go [] [] e f Less c k = absurd (omega (arith, e, f, l, m, k))
    go [] [] e f Equal c k = c
    go [] [] e f Greater c k = absurd (omega (arith, e, f, l, m, k))
    go [] (q ∷ qs) e f Less c k = c
    go [] (q ∷ qs) e f Equal c k = absurd (omega (arith, e, f, l, m, k))
    go [] (q ∷ qs) e f Greater c k = absurd (omega (arith, e, f, l, m, k))
    go (p ∷ ps) [] e f Less c k = absurd (omega (arith, e, f, l, m, k))
    go (p ∷ ps) [] e f Equal c k = absurd (omega (arith, e, f, l, m, k))
    go (p ∷ ps) [] e f Greater c k = c
    go (p ∷ ps) (q ∷ qs) e f r c k = absurd (elim ended [ inl i ↦ omega (arith, i, e) | inr i ↦ omega (arith, i, f) ])

then_assoc : (a b c : Ordering) → ordering_then a (ordering_then b c) ≡ ordering_then (ordering_then a b) c
then_assoc Less b c = refl
then_assoc Equal b c = refl
then_assoc Greater b c = refl

-- in two pieces
pub cmp_pieces : (xs hs ps : List ℕ) → length hs ≤ length xs → slice_cmp nat_cmp xs (hs ++ ps) ≡ ordering_then (slice_cmp nat_cmp (take (length hs) xs) hs) (slice_cmp nat_cmp (drop (length hs) xs) ps)
cmp_pieces xs [] ps l = refl
cmp_pieces [] (h ∷ hs) ps l = absurd (omega (arith, l))
cmp_pieces (x ∷ xs) (h ∷ hs) ps l =
    ap (ordering_then (nat_cmp x h)) (cmp_pieces xs hs ps (omega (arith, l)))
    ∙ then_assoc (nat_cmp x h) (slice_cmp nat_cmp (take (length hs) xs) hs) (slice_cmp nat_cmp (drop (length hs) xs) ps)

-- the first piece decides
pub then_decided : (r s : Ordering) → (r ≡ Equal → ⊥) → r ≡ ordering_then r s
then_decided Less s n = refl
then_decided Equal s n = absurd (n refl)
then_decided Greater s n = refl

-- the first bytes decide
pub starts_less : (xs ys ps : List ℕ) → 0 < length xs → get_or xs 0 0 < get_or ys 0 0 → slice_cmp nat_cmp xs (ys ++ ps) ≡ Less
starts_less [] ys ps l n = absurd (omega (arith, l))
starts_less (x ∷ xs) [] ps l n = absurd (omega (arith, n))
starts_less (x ∷ xs) (y ∷ ys) ps l n = go (nat_cmp x y) refl (ranked x y (nat_cmp x y) refl)
  where
    go : (r : Ordering) → nat_cmp x y ≡ r → MatchOrdering r (x < y) (x ≡ y) (y < x) → ordering_then (nat_cmp x y) (slice_cmp nat_cmp xs (ys ++ ps)) ≡ Less
    go Less c k = ap (λ (r : Ordering). ordering_then r (slice_cmp nat_cmp xs (ys ++ ps))) c
    go Equal c k = absurd (omega (arith, n, k))
    go Greater c k = absurd (omega (arith, n, k))
