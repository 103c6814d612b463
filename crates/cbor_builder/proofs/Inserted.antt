-- Spans sorted by insertion.
use Rattle.std.proofs.Common.{◌≡◌, ℕ, zero, suc, ◌+◌, ◌-◌, ◌<◌, ◌≤◌, List, [], ◌∷◌, ◌++◌, length, length-take, take, drop, drop-drop, get_or, set, map, refl, sym, ap, ◌∙◌, subst, arith, inl, inr, IsPermutation, IsTrue, take-take}
use Rattle.std.proofs.lemmas.List.{take_more, take-map, drop_all, get_or-drop, get_or_default}
use Rattle.std.proofs.lemmas.List.Sorted.{IsPermutation-trans, IsPermutation-append_comm, IsPermutation-append_right, IsPermutation-map}
use Rattle.std.{specs.List.AllByRecursion, specs.List.insert, proofs.lemmas.List.Edits.get_or-insert_below, proofs.lemmas.List.Edits.length-insert}
use Rattle.std.{proofs.Math.Seq.take-append_seam, proofs.Math.Seq.drop-append_seam, specs.declared.cmp.Ordering.Ordering}
use Rattle.std.specs.{declared.cmp.Ordering.TheVariants.Less, declared.cmp.Ordering.TheVariants.Greater, Ordering.is_lt, Ordering.ordering_reverse}
use Rattle.cbor_head.specs.Prelude.{key_cmp, key_lt, AreBytes, Pair}
use Rattle.cbor_head.specs.declared.order.KeyOrder.{KeyOrder}
use Rattle.theory_values.{specs.Pairs.HasDistinctBytes, specs.Pairs.IsRising, proofs.Orders.key_cmp_total, proofs.Orders.lt_trans}
use Rattle.cbor_builder.specs.inner.Prefix.{key_of, IsPrefixed, ArePrefixed, rank, ranked_by, at_start}
use Rattle.cbor_builder.specs.{inner.Spans.span_pair, inner.Spans.no_span, declared.span.Span.Span}
use Rattle.cbor_builder.{proofs.ByIndex.all_index, proofs.ByIndex.at_read, specs.Built.HasKey, proofs.Ranks.agree_spans, proofs.KeysSoFar.distinct_permuted}

-- ---- a list with one more at an index

-- the last one is where one more is inserted
pub free_place : (n : ℕ) (ss : List Span) → n + 1 ≡ length ss → (h : Span) × (ss ≡ insert (take n ss) n h)
free_place zero (s ∷ []) e = (s, refl)
free_place (suc n) (s ∷ ss) e = let r = free_place n ss (omega (arith, e)) in (r.0, ap (λ (us : List Span). s ∷ us) r.1)
free_place n ss e = absurd (omega (arith, e))

pub set_free : (ss us : List Span) (n : ℕ) (h s : Span) → us ≡ insert ss n h → n ≤ length ss → set us n s ≡ insert ss n s
set_free ss us n h s e l = ap (λ (us : List Span). set us n s) e ∙ go ss n l
  where
    go : (ss : List Span) (n : ℕ) → n ≤ length ss → set (insert ss n h) n s ≡ insert ss n s
    go ss zero l = refl
    go [] (suc n) l = absurd (omega (arith, l))
    go (x ∷ ss) (suc n) l = ap (λ (us : List Span). x ∷ us) (go ss n (omega (arith, l)))

-- one is doubled, and either of the two may be replaced
doubled : (ss : List Span) (n : ℕ) (s : Span) → n < length ss → s ≡ get_or ss n s → insert ss (suc n) s ≡ insert ss n s
doubled [] n s l e = absurd (omega (arith, l))
doubled (x ∷ ss) zero s l e = let f : s ≡ x = e in ap (λ (t : Span). t ∷ s ∷ ss) (sym f) ∙ ap (λ (t : Span). s ∷ t ∷ ss) f
doubled (x ∷ ss) (suc n) s l e = ap (λ (us : List Span). x ∷ us) (doubled ss n s (omega (arith, l)) e)

-- those before the last of the first ones
pub at_start_taken : (n : ℕ) (us : List Span) → n < length us → at_start (take (n + 1) us) ≡ take n us
at_start_taken n us l =
    let len : length (take (n + 1) us) - 1 ≡ n = let t = length-take (n + 1) us in omega (arith, t, l) in
    ap (λ k. take k (take (n + 1) us)) len ∙ take-take n (n + 1) us (omega arith)

pub taken_prefix : (n : ℕ) (us ts : List Span) → length us ≡ n → take n (us ++ ts) ≡ us
taken_prefix n us ts e = ap (λ k. take k (us ++ ts)) (sym e) ∙ take-append_seam us ts

-- what follows the first n is unchanged
pub rest_prefix : (n : ℕ) (us ts : List Span) → length us ≡ n → drop n (us ++ ts) ≡ ts
rest_prefix n us ts e = ap (λ k. drop k (us ++ ts)) (sym e) ∙ drop-append_seam us ts

pub same_at : (n : ℕ) (ss us : List Span) (d : Span) → drop n ss ≡ drop n us → get_or ss n d ≡ get_or us n d
same_at n ss us d e =
    let k : n ≡ n + 0 = omega arith in
    ap (λ k. get_or ss k d) k ∙ sym (get_or-drop n ss 0 d) ∙ ap (λ (ts : List Span). get_or ts 0 d) e ∙ get_or-drop n us 0 d ∙ ap (λ k. get_or us k d) (sym k)

pub rest_more : (n : ℕ) (ss us : List Span) → drop n ss ≡ drop n us → drop (n + 1) ss ≡ drop (n + 1) us
rest_more n ss us e = sym (drop-drop 1 n ss) ∙ ap (drop 1) e ∙ drop-drop 1 n us

-- ---- order

-- each is above the next one
abbrev pub AreAbove : KeyOrder → List ℕ → Span → List Span → Type 0
AreAbove o out next ss = AllByRecursion (λ q. IsTrue (key_lt o (key_of out next) q.key)) (map (span_pair out) ss)

abbrev pub AreBelow : KeyOrder → List ℕ → Span → List Span → Type 0
AreBelow o out next ss = AllByRecursion (λ s. IsTrue (key_lt o (key_of out s) (key_of out next))) ss

pub above_more : (o : KeyOrder) (out : List ℕ) (next : Span) (ss : List Span) (at n : ℕ) (s : Span) → suc n ≡ at → n < length ss → s ≡ get_or ss n s
    → IsTrue (key_lt o (key_of out next) (key_of out s)) → AreAbove o out next (drop at ss) → AreAbove o out next (drop n ss)
above_more o out next ss at n s q l e h a =
    let k : at ≡ n + 1 = omega (arith, q) in
    subst (AreAbove o out next) (sym (at_read ss n s l e)) (h, subst (λ k. AreAbove o out next (drop k ss)) k a)

pub none_below : (o : KeyOrder) (out : List ℕ) (next : Span) (ss : List Span) (at : ℕ) → at ≤ 0 → AreBelow o out next (take at ss)
none_below o out next ss zero l = tt
none_below o out next ss (suc n) l = absurd (omega (arith, l))

mapped_at : (P : Pair → Type 0) (f : Span → Pair) (ss : List Span) (n : ℕ) (s : Span) → n < length ss → s ≡ get_or ss n s → AllByRecursion P (map f ss) → P (f s)
mapped_at P f [] n s l e a = absurd (omega (arith, l))
mapped_at P f (x ∷ ss) zero s l e a = subst (λ (t : Span). P (f t)) (sym e) a.0
mapped_at P f (x ∷ ss) (suc n) s l e a = mapped_at P f ss n s (omega (arith, l)) e a.1

-- if the last of the first ones is below, all of them are
pub below_all : (o : KeyOrder) (out : List ℕ) (next : Span) (ss : List Span) (at n : ℕ) (s : Span) → suc n ≡ at → n < length ss → s ≡ get_or ss n s
    → IsTrue (key_lt o (key_of out s) (key_of out next)) → IsRising o (map (span_pair out) ss) → AreBelow o out next (take at ss)
below_all o out next ss at n s q l e h r = subst (λ k. AreBelow o out next (take k ss)) q (go ss n l e r)
  where
    go : (ss : List Span) (n : ℕ) → n < length ss → s ≡ get_or ss n s → IsRising o (map (span_pair out) ss) → AreBelow o out next (take (suc n) ss)
    go [] n l e r = absurd (omega (arith, l))
    go (x ∷ ss) zero l e r = (subst (λ (t : Span). IsTrue (key_lt o (key_of out t) (key_of out next))) e h, tt)
    go (x ∷ ss) (suc n) l e r =
        let less = mapped_at (λ q. IsTrue (key_lt o (key_of out x) q.key)) (span_pair out) ss n s (omega (arith, l)) e r.0 in
        (lt_trans o (key_of out x) (key_of out s) (key_of out next) less h, go ss n (omega (arith, l)) e r.1)

all_inserted : (P : Pair → Type 0) (f : Span → Pair) (ss : List Span) (n : ℕ) (y : Span) → AllByRecursion P (map f ss) → P (f y) → AllByRecursion P (map f (insert ss n y))
all_inserted P f ss zero y a h = (h, a)
all_inserted P f [] (suc n) y a h = (h, tt)
all_inserted P f (x ∷ ss) (suc n) y a h = (a.0, all_inserted P f ss n y a.1 h)

-- between those below and those above, it keeps the keys rising
pub inserted_rises : (o : KeyOrder) (out : List ℕ) (next : Span) (ss : List Span) (n : ℕ) → IsRising o (map (span_pair out) ss) → AreBelow o out next (take n ss) → AreAbove o out next (drop n ss)
    → IsRising o (map (span_pair out) (insert ss n next))
inserted_rises o out next ss zero r b a = (a, r)
inserted_rises o out next [] (suc n) r b a = (tt, tt)
inserted_rises o out next (x ∷ ss) (suc n) r b a =
    (all_inserted (λ q. IsTrue (key_lt o (key_of out x) q.key)) (span_pair out) ss n next r.0 b.0, inserted_rises o out next ss n r.1 b.1 a)

insert_end : (ss : List Span) (y : Span) → insert ss (length ss) y ≡ ss ++ y ∷ []
insert_end [] y = refl
insert_end (s ∷ ss) y = ap (λ (us : List Span). s ∷ us) (insert_end ss y)

-- after the last one, if it is above that
pub above_last : (o : KeyOrder) (out : List ℕ) (ss : List Span) (n : ℕ) (last next : Span) → suc n ≡ length ss → last ≡ get_or ss n last → IsTrue (key_lt o (key_of out last) (key_of out next))
    → IsRising o (map (span_pair out) ss) → IsRising o (map (span_pair out) (ss ++ next ∷ []))
above_last o out ss n last next q e l r =
    let m = length ss in
    subst (λ (us : List Span). IsRising o (map (span_pair out) us)) (insert_end ss next)
    (inserted_rises o out next ss m r (below_all o out next ss m n last q (omega (arith, q)) e l r) (subst (AreAbove o out next) (sym (drop_all m ss (omega arith))) tt))

-- ---- what a comparison shows

-- the one before the free place, compared with the next: the free place can move one to the left
pub visited : (o : KeyOrder) (out : List ℕ) (ss us : List Span) (at n : ℕ) (h s next : Span) (r : Ordering) → AreBytes out → ArePrefixed out ss → IsPrefixed out next → suc n ≡ at → at ≤ length ss → us ≡ insert ss at h
    → s ≡ get_or us n no_span → r ≡ rank o (ranked_by out s) (ranked_by out next) → (s ≡ get_or ss n s) × (r ≡ key_cmp o (key_of out s) (key_of out next)) × (set us at s ≡ insert ss n s)
visited o out ss us at n h s next r b f g q l e is k =
    let size = length-insert ss at h l in
    let same : s ≡ get_or ss n s = is ∙ get_or_default us n no_span s (omega (arith, ap length e, size, q, l)) ∙ ap (λ (ts : List Span). get_or ts n s) e ∙ get_or-insert_below ss at h s n (omega (arith, q)) (omega (arith, l, q)) in
    (same, k ∙ agree_spans o out s next b (subst (IsPrefixed out) (sym same) (all_index _ ss n s f (omega (arith, l, q)))) g, set_free ss us at h s e l ∙ ap (λ k. insert ss k s) (sym q) ∙ doubled ss n s (omega (arith, l, q)) same)

pub less_key : (o : KeyOrder) (k l : List ℕ) → Less ≡ key_cmp o k l → IsTrue (key_lt o k l)
less_key o k l e = sym (ap is_lt e)

pub greater_key : (o : KeyOrder) (k l : List ℕ) → Greater ≡ key_cmp o k l → IsTrue (key_lt o l k)
greater_key o k l e = ap is_lt ((key_cmp_total o).antisymm l k ∙ ap ordering_reverse (sym e))

-- ---- equal keys

pub has_key_at : (out k : List ℕ) (ss : List Span) (n : ℕ) (s : Span) → n < length ss → s ≡ get_or ss n s → key_of out s ≡ k → HasKey (map (span_pair out) ss) k
has_key_at out k [] n s l e h = absurd (omega (arith, l))
has_key_at out k (x ∷ ss) zero s l e h = inl (ap (key_of out) (sym e) ∙ h)
has_key_at out k (x ∷ ss) (suc n) s l e h = inr (has_key_at out k ss n s (omega (arith, l)) e h)

no_key : (out : List ℕ) (next : Span) (ss : List Span) → HasDistinctBytes (map (span_pair out) (next ∷ ss)) → HasKey (map (span_pair out) ss) (key_of out next) → ⊥
no_key out next [] d h = h
no_key out next (s ∷ ss) d (inl e) = d.0.0 e
no_key out next (s ∷ ss) d (inr h) = no_key out next ss (d.0.1, d.1.1) h

pub all_taken : {X : Type 0} (P : X → Type 0) (n : ℕ) (xs : List X) → AllByRecursion P xs → AllByRecursion P (take n xs)
all_taken P (suc n) (x ∷ xs) a = (a.0, all_taken P n xs a.1)
all_taken P n xs a = tt

distinct_taken : (n : ℕ) (ps : List Pair) → HasDistinctBytes ps → HasDistinctBytes (take n ps)
distinct_taken (suc n) (p ∷ ps) d = (all_taken _ n ps d.0, distinct_taken n ps d.1)
distinct_taken n ps d = tt

-- ---- a turn of the loop

one_more : (ss : List Span) (n : ℕ) (next : Span) → n < length ss → next ≡ get_or ss n next → IsPermutation (take (n + 1) ss) (next ∷ take n ss)
one_more ss n next l e =
    subst (λ (us : List Span). IsPermutation us (next ∷ take n ss)) (sym (take_more ss n next l ∙ ap (λ (s : Span). take n ss ++ s ∷ []) (sym e)))
    (IsPermutation-append_comm (take n ss) (next ∷ []))

pub more_permuted : (ss us ts : List Span) (n : ℕ) (next : Span) → n < length ss → next ≡ get_or ss n next → IsPermutation (take n ss) us → IsPermutation (next ∷ us) ts → IsPermutation (take (n + 1) ss) ts
more_permuted ss us ts n next l e m p =
    IsPermutation-trans _ _ _ (one_more ss n next l e) (IsPermutation-trans _ _ _ (IsPermutation-append_right (next ∷ []) (take n ss) us m) p)

pub repeats : (o : KeyOrder) (out : List ℕ) (ss us : List Span) (n : ℕ) (next : Span) → n < length ss → next ≡ get_or ss n next → IsPermutation (take n ss) us
    → HasKey (map (span_pair out) us) (key_of out next) → HasDistinctBytes (map (span_pair out) ss) → ⊥
repeats o out ss us n next l e m h d =
    let f = span_pair out in
    let moved = IsPermutation-trans _ _ _ (one_more ss n next l e) (IsPermutation-append_right (next ∷ []) (take n ss) us m) in
    no_key out next us (distinct_permuted (map f (take (n + 1) ss)) (map f (next ∷ us)) (IsPermutation-map f (take (n + 1) ss) (next ∷ us) moved) (subst HasDistinctBytes (take-map f (n + 1) ss) (distinct_taken (n + 1) (map f ss) d))) h
