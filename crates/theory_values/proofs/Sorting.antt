-- Insertion sort of pairs: the one strictly rising list with the same members.
use Rattle.std.proofs.Common.{◌≡◌, ℕ, suc, Bool, true, false, List, [], ◌∷◌, length, ◌⊎◌, inl, inr, refl, sym, ap, ◌∙◌, subst, IsTrue, if◌then◌else◌}
use Rattle.std.proofs.lemmas.List.Sorted.{IsPermutation-refl, IsPermutation-sym, IsPermutation-trans, IsPermutation-cons, IsPermutation-middle}
use Rattle.std.specs.List.Sorted.{IsPermutation}
use Rattle.cbor_head.specs.Prelude.{key_lt, Pair, put, in_order}
use Rattle.cbor_head.specs.declared.order.KeyOrder.{KeyOrder}
use Rattle.theory_values.proofs.Members.{In, all_at, all_from}
use Rattle.theory_values.proofs.Orders.{lt_irrefl, lt_trans, lt_other}
use Rattle.theory_values.specs.Pairs.{IsRising, HasDistinctBytes}

pub rises_at : (o : KeyOrder) (p : Pair) (ps : List Pair) → IsRising o (p ∷ ps) → (q : Pair) → In q ps → IsTrue (key_lt o p.key q.key)
rises_at o p ps u q m = all_at (λ (r : Pair). IsTrue (key_lt o p.key r.key)) ps q u.0 m

pub rising_cons : (o : KeyOrder) (p : Pair) (ps : List Pair) → ((q : Pair) → In q ps → IsTrue (key_lt o p.key q.key)) → IsRising o ps → IsRising o (p ∷ ps)
rising_cons o p ps f u = (all_from (λ (q : Pair). IsTrue (key_lt o p.key q.key)) ps f, u)

pub differs_at : (p : Pair) (ps : List Pair) → HasDistinctBytes (p ∷ ps) → (q : Pair) → In q ps → q.key ≡ p.key → ⊥
differs_at p ps d q m = all_at (λ (r : Pair). r.key ≡ p.key → ⊥) ps q d.0 m

pub rising_distinct : (o : KeyOrder) (ps : List Pair) → IsRising o ps → HasDistinctBytes ps
rising_distinct o [] u = tt
rising_distinct o (p ∷ ps) u = (
  all_from (λ (q : Pair). q.key ≡ p.key → ⊥) ps (λ q m e.
      lt_irrefl o p.key (subst (λ (l : List ℕ). IsTrue (key_lt o p.key l)) e (rises_at o p ps u q m))),
  rising_distinct o ps u.1,
)

-- two rising lists with the same members are equal
pub rising_unique : (o : KeyOrder) (ps qs : List Pair) → IsRising o ps → IsRising o qs → ((p : Pair) → In p ps → In p qs) → ((q : Pair) → In q qs → In q ps) → ps ≡ qs
rising_unique o [] [] u v f g = refl
rising_unique o [] (q ∷ qs) u v f g = absurd (g q (inl refl))
rising_unique o (p ∷ ps) [] u v f g = absurd (f p (inl refl))
rising_unique o (p ∷ ps) (q ∷ qs) u v f g =
    let rest = rising_unique o ps qs u.1 v.1 forth back in λ i. same i ∷ rest i
  where
    same : p ≡ q
    same = elim (f p (inl refl)) [
      | inl e ↦ e
      | inr here ↦ elim (g q (inl refl)) [
        | inl e ↦ sym e
        | inr there ↦ absurd (lt_irrefl o p.key (lt_trans o p.key q.key p.key (rises_at o p ps u q there) (rises_at o q qs v p here)))
      ]
    ]

    forth : (r : Pair) → In r ps → In r qs
    forth r m = elim (f r (inr m)) [
      | inl e ↦ absurd (lt_irrefl o p.key (subst (λ (s : Pair). IsTrue (key_lt o p.key s.key)) (e ∙ sym same) (rises_at o p ps u r m)))
      | inr n ↦ n
    ]

    back : (r : Pair) → In r qs → In r ps
    back r m = elim (g r (inr m)) [
      | inl e ↦ absurd (lt_irrefl o q.key (subst (λ (s : Pair). IsTrue (key_lt o q.key s.key)) (e ∙ same) (rises_at o q qs v r m)))
      | inr n ↦ n
    ]

-- inserted into a list: before the first that it comes before, after the others
by_put : (o : KeyOrder) (p : Pair) (P : List Pair → List Pair → Type 0) → P [] (p ∷ []) → ((q : Pair) (qs : List Pair) → P (q ∷ qs) (p ∷ q ∷ qs)) → ((q : Pair) (qs rs : List Pair) → P qs rs → P (q ∷ qs) (q ∷ rs)) → (qs : List Pair) → P qs (put o p qs)
by_put o p P none here there [] = none
by_put o p P none here there (q ∷ qs) =
    elim (key_lt o p.key q.key) as (λ b. P (q ∷ qs) (if b then p ∷ q ∷ qs else q ∷ put o p qs)) [
      | true ↦ here q qs
      | false ↦ there q qs (put o p qs) (by_put o p P none here there qs)
    ]

-- the members after an insert
pub in_put : (o : KeyOrder) (p : Pair) (qs : List Pair) (r : Pair) → In r (put o p qs) → (r ≡ p) ⊎ In r qs
in_put o p qs r m =
    by_put o p (λ qs rs. In r rs → (r ≡ p) ⊎ In r qs) (λ n. n) (λ q qs n. n)
    (λ q qs rs ih n. elim n [ inl e ↦ inr (inl e) | inr k ↦ elim (ih k) [ inl e ↦ inl e | inr l ↦ inr (inr l) ] ]) qs m

pub put_in : (o : KeyOrder) (p : Pair) (qs : List Pair) (r : Pair) → (r ≡ p) ⊎ In r qs → In r (put o p qs)
put_in o p qs r m =
    by_put o p (λ qs rs. (r ≡ p) ⊎ In r qs → In r rs) (λ n. n) (λ q qs n. n)
    (λ q qs rs ih n. elim n [ inl e ↦ inr (ih (inl e)) | inr (inl e) ↦ inl e | inr (inr l) ↦ inr (ih (inr l)) ]) qs m

pub length-put : (o : KeyOrder) (p : Pair) (qs : List Pair) → length (put o p qs) ≡ suc (length qs)
length-put o p qs = by_put o p (λ qs rs. length rs ≡ suc (length qs)) refl (λ q qs. refl) (λ q qs rs ih. ap suc ih) qs

pub put_rising : (o : KeyOrder) (p : Pair) (qs : List Pair) → IsRising o qs → ((q : Pair) → In q qs → q.key ≡ p.key → ⊥) → IsRising o (put o p qs)
put_rising o p [] u n = (tt, tt)
put_rising o p (q ∷ qs) u n =
    let split : (b : Bool) → key_lt o p.key q.key ≡ b → IsRising o (if b then p ∷ q ∷ qs else q ∷ put o p qs) =
    elim [
      | true ↦ λ e. rising_cons o p (q ∷ qs) (λ r m. elim m [
        | inl s ↦ subst (λ (t : Pair). IsTrue (key_lt o p.key t.key)) (sym s) e
        | inr k ↦ lt_trans o p.key q.key r.key e (rises_at o q qs u r k)
      ]) u
      | false ↦ λ e. rising_cons o q (put o p qs) (λ r m. elim (in_put o p qs r m) [
        | inl s ↦ subst (λ (t : Pair). IsTrue (key_lt o q.key t.key)) (sym s) (lt_other o p.key q.key e (n q (inl refl)))
        | inr k ↦ rises_at o q qs u r k
      ]) (put_rising o p qs u.1 (λ r k. n r (inr k)))
    ] in
    split (key_lt o p.key q.key) refl

pub in_order_in : (o : KeyOrder) (ps : List Pair) (r : Pair) → In r (in_order o ps) → In r ps
in_order_in o [] r m = m
in_order_in o (p ∷ ps) r m = elim (in_put o p (in_order o ps) r m) [ inl e ↦ inl e | inr k ↦ inr (in_order_in o ps r k) ]

pub in_in_order : (o : KeyOrder) (ps : List Pair) (r : Pair) → In r ps → In r (in_order o ps)
in_in_order o (p ∷ ps) r m = put_in o p (in_order o ps) r (elim m [ inl e ↦ inl e | inr k ↦ inr (in_in_order o ps r k) ])
in_in_order o [] r m = m

pub length-in_order : (o : KeyOrder) (ps : List Pair) → length (in_order o ps) ≡ length ps
length-in_order o [] = refl
length-in_order o (p ∷ ps) = length-put o p (in_order o ps) ∙ ap suc (length-in_order o ps)

pub in_order_rising : (o : KeyOrder) (ps : List Pair) → HasDistinctBytes ps → IsRising o (in_order o ps)
in_order_rising o [] d = tt
in_order_rising o (p ∷ ps) d = put_rising o p (in_order o ps) (in_order_rising o ps d.1) (λ q m. differs_at p ps d q (in_order_in o ps q m))

-- a list in order already stays
put-rising : (o : KeyOrder) (p : Pair) (qs : List Pair) → IsRising o (p ∷ qs) → put o p qs ≡ p ∷ qs
put-rising o p [] u = refl
put-rising o p (q ∷ qs) u = let e : key_lt o p.key q.key ≡ true = rises_at o p (q ∷ qs) u q (inl refl) in rw e refl

pub in_order-rising : (o : KeyOrder) (ps : List Pair) → IsRising o ps → in_order o ps ≡ ps
in_order-rising o [] u = refl
in_order-rising o (p ∷ ps) u = ap (put o p) (in_order-rising o ps u.1) ∙ put-rising o p ps u

put_permutes : (o : KeyOrder) (p : Pair) (qs : List Pair) → IsPermutation (p ∷ qs) (put o p qs)
put_permutes o p qs =
    by_put o p (λ qs rs. IsPermutation (p ∷ qs) rs) (IsPermutation-refl (p ∷ [])) (λ q qs. IsPermutation-refl (p ∷ q ∷ qs))
    (λ q qs rs ih.
    IsPermutation-trans (p ∷ q ∷ qs) (q ∷ p ∷ qs) (q ∷ rs) (IsPermutation-sym (q ∷ p ∷ qs) (p ∷ q ∷ qs) (IsPermutation-middle (q ∷ []) p qs))
    (IsPermutation-cons q (p ∷ qs) rs ih)) qs

pub in_order_permutes : (o : KeyOrder) (ps : List Pair) → IsPermutation ps (in_order o ps)
in_order_permutes o [] = IsPermutation-refl []
in_order_permutes o (p ∷ ps) =
    IsPermutation-trans (p ∷ ps) (p ∷ in_order o ps) (put o p (in_order o ps)) (IsPermutation-cons p ps (in_order o ps) (in_order_permutes o ps))
    (put_permutes o p (in_order o ps))

-- lists of distinct keys with the same members sort to the same list
pub in_order_same : (o : KeyOrder) (ps qs : List Pair) → HasDistinctBytes ps → HasDistinctBytes qs → ((p : Pair) → In p ps → In p qs) → ((q : Pair) → In q qs → In q ps) → in_order o ps ≡ in_order o qs
in_order_same o ps qs d e f g =
    rising_unique o (in_order o ps) (in_order o qs) (in_order_rising o ps d) (in_order_rising o qs e)
    (λ p m. in_in_order o qs p (f p (in_order_in o ps p m))) (λ q m. in_in_order o ps q (g q (in_order_in o qs q m)))
