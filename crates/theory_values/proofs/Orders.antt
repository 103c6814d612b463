-- The key orders are strict total orders.
use Rattle.std.proofs.Common.{◌≡◌, ℕ, ◌<◌, List, [], ◌∷◌, length, false, refl, sym, ap, ◌∙◌, IsTrue}
use Rattle.std.specs.Ordering.{nat_cmp, is_lt, ordering_then, ordering_reverse, MatchOrdering}
use Rattle.std.specs.declared.cmp.Ordering.TheVariants.{Less, Equal, Greater}
use Rattle.std.proofs.lemmas.Cmp.{nat_list_cmp_total, nat_cmp_total, on_total, then_total, tied_itself, ranked}
use Rattle.std.specs.{declared.cmp.Ordering.Ordering, Cmp.IsTotalOrder, Cmp.Lexicographic.slice_cmp}
use Rattle.cbor_head.specs.{Prelude.key_cmp, Prelude.key_lt, declared.order.KeyOrder.KeyOrder}
use Rattle.cbor_head.specs.declared.order.KeyOrder.TheVariants.{Bytewise, LengthFirst}

pub key_cmp_total : (o : KeyOrder) → IsTotalOrder (key_cmp o)
key_cmp_total Bytewise = nat_list_cmp_total
key_cmp_total LengthFirst = then_total (on_total length nat_cmp_total) nat_list_cmp_total

is_less : (r : Ordering) → IsTrue (is_lt r) → r ≡ Less
is_less Less h = refl
is_less Equal h = cc
is_less Greater h = cc

pub lt_irrefl : (o : KeyOrder) (x : List ℕ) → IsTrue (key_lt o x x) → ⊥
lt_irrefl o x h = let t = tied_itself (key_cmp_total o) x in let l = is_less _ h in cc

pub lt_trans : (o : KeyOrder) (x y z : List ℕ) → IsTrue (key_lt o x y) → IsTrue (key_lt o y z) → IsTrue (key_lt o x z)
lt_trans o x y z h g = ap is_lt ((key_cmp_total o).trans x y z (is_less _ h) (is_less _ g))

tied_numbers : (x y : ℕ) → nat_cmp x y ≡ Equal → x ≡ y
tied_numbers x y h = go (nat_cmp x y) h (ranked x y (nat_cmp x y) refl)
  where
    go : (r : Ordering) → r ≡ Equal → MatchOrdering r (x < y) (x ≡ y) (y < x) → x ≡ y
    go Less e m = cc
    go Equal e m = m
    go Greater e m = cc

then_tied : (a b : Ordering) → ordering_then a b ≡ Equal → (a ≡ Equal) × (b ≡ Equal)
then_tied Less b h = cc
then_tied Equal b h = (refl, h)
then_tied Greater b h = cc

tied_lists : (xs ys : List ℕ) → slice_cmp nat_cmp xs ys ≡ Equal → xs ≡ ys
tied_lists [] [] h = refl
tied_lists [] (y ∷ ys) h = cc
tied_lists (x ∷ xs) [] h = cc
tied_lists (x ∷ xs) (y ∷ ys) h =
    let t = then_tied (nat_cmp x y) (slice_cmp nat_cmp xs ys) h in
    let p = tied_numbers x y t.0 in
    let q = tied_lists xs ys t.1 in cc

pub tied : (o : KeyOrder) (xs ys : List ℕ) → key_cmp o xs ys ≡ Equal → xs ≡ ys
tied Bytewise xs ys h = tied_lists xs ys h
tied LengthFirst xs ys h = tied_lists xs ys (then_tied _ _ h).1

-- one of two different keys comes before the other
pub lt_other : (o : KeyOrder) (x y : List ℕ) → key_lt o x y ≡ false → (y ≡ x → ⊥) → IsTrue (key_lt o y x)
lt_other o x y h n = go (key_cmp o x y) refl
  where
    go : (r : Ordering) → key_cmp o x y ≡ r → IsTrue (key_lt o y x)
    go Less e = let l = ap is_lt e in cc
    go Equal e = absurd (n (sym (tied o x y e)))
    go Greater e = ap is_lt ((key_cmp_total o).antisymm y x ∙ ap ordering_reverse e)
