-- Sets of the keys of open containers: what an item's parts do to them.
use Rattle.std.proofs.Common.{◌≡◌, ℕ, ◌<◌, ◌≤◌, ◌⊎◌, ◌↔◌, Bool, true, false, not, List, [], ◌∷◌, ◌++◌, length, refl, sym, ap, ◌∙◌, subst, inl, inr, arith, Vec, Global, map, true≢false}
use Rattle.std.{proofs.lemmas.Bool.not-true, proofs.lemmas.Bool.not-false, specs.Ordering.nat_cmp, specs.Cmp.Lexicographic.slice_cmp}
use Rattle.std.specs.BTreeSet.{BTreeSet, Updates}
use Rattle.arrayvec.specs.ArrayVec.{ArrayVec}
use Rattle.cbor_head.specs.declared.major.Major.TheVariants as majors
use Rattle.cbor_head.specs.{Prelude.Pair, declared.major.Major.Major, declared.order.KeyOrder.KeyOrder}
use Rattle.theory_values.specs.Parts.{Open, plain, a_key, pair, closed, give, close, opened}
use Rattle.cbor_builder.specs.Built.{HasKey, IsRepeatedKey, IsWaitingKey, IsContainer}
use Rattle.theory_verdicts.specs.Levels as levels
use Rattle.theory_verdicts.specs.{Place.Place, Place.Ends, Levels.Level, Levels.frame, Given.level_open, Given.opens}
use Rattle.cbor_tree_reader.specs.inner.HeldKeys.{is_in, IsAmong, HasKeyBytes, IsAdded, pair_keys, keys_before, AreHeld, AreHeldSoFar}
use Rattle.cbor_tree_reader.{specs.declared.key_set.KeySet.KeySet, proofs.KeySets.in_more}

-- ---- one key more in a set

module _ (ks : List (List ℕ)) (b : List ℕ) (set : KeySet) (h : HasKeyBytes set ks) where
  pub adds-short : (all : BTreeSet (ArrayVec ℕ)) (v : ArrayVec ℕ) (fresh : Bool) → length v.items ≤ 16 → v.items ≡ b → Updates (λ x y. slice_cmp nat_cmp x.items y.items) set.short all v true
      → fresh ≡ not (is_in (λ x. x.items) set.short v) → IsAdded b ks (record { short = all; long = set.long }) fresh
  adds-short all v true l is u f = (
    (λ x. true≢false (sym ((h.short v l).1 (subst (λ (q : List ℕ). IsAmong q ks) (sym is) x)) ∙ not-true _ (sym f))),
    record {
      short = λ q m. subst (λ (x : List ℕ). (is_in (λ y. y.items) all q ≡ true) ↔ ((q.items ≡ x) ⊎ IsAmong q.items ks)) is (in_more (λ y. y.items) set.short all v q (IsAmong q.items ks) u (h.short q m));
      long = λ q m. ((λ e. inr ((h.long q m).0 e)), (elim [ inl e ↦ absurd (omega (arith, m, l, ap length e, ap length is)) | inr x ↦ (h.long q m).1 x ]));
    },
  )
  adds-short all v false l is u f = subst (λ (q : List ℕ). IsAmong q ks) is ((h.short v l).0 (not-false _ (sym f)))

  pub adds-long : (all : BTreeSet (Vec ℕ Global)) (v : Vec ℕ Global) (fresh : Bool) → 16 < length v.items → v.items ≡ b → Updates (λ x y. slice_cmp nat_cmp x.items y.items) set.long all v true
      → fresh ≡ not (is_in (λ x. x.items) set.long v) → IsAdded b ks (record { short = set.short; long = all }) fresh
  adds-long all v true l is u f = (
    (λ x. true≢false (sym ((h.long v l).1 (subst (λ (q : List ℕ). IsAmong q ks) (sym is) x)) ∙ not-true _ (sym f))),
    record {
      short = λ q m. ((λ e. inr ((h.short q m).0 e)), (elim [ inl e ↦ absurd (omega (arith, m, l, ap length e, ap length is)) | inr x ↦ (h.short q m).1 x ]));
      long = λ q m. subst (λ (x : List ℕ). (is_in (λ y. y.items) all q ≡ true) ↔ ((q.items ≡ x) ⊎ IsAmong q.items ks)) is (in_more (λ y. y.items) set.long all v q (IsAmong q.items ks) u (h.long q m));
    },
  )
  adds-long all v false l is u f = subst (λ (q : List ℕ). IsAmong q ks) is ((h.long v l).0 (not-false _ (sym f)))

-- ---- the keys of pairs

pub among-exactly : (ps : List Pair) (q : List ℕ) → IsAmong q (pair_keys ps) ↔ HasKey ps q
among-exactly [] q = ((λ x. x), (λ x. x))
among-exactly (p ∷ ps) q =
    let more = among-exactly ps q in
    ((elim [ inl e ↦ inl (sym e) | inr x ↦ inr (more.0 x) ]), (elim [ inl e ↦ inl (sym e) | inr x ↦ inr (more.1 x) ]))

among-more : (ps : List Pair) (k b q : List ℕ) → IsAmong q (k ∷ pair_keys ps) ↔ IsAmong q (pair_keys (ps ++ pair k b ∷ []))
among-more [] k b q = ((λ x. x), (λ x. x))
among-more (p ∷ ps) k b q =
    let more = among-more ps k b q in (
      (elim [ inl e ↦ inr (more.0 (inl e)) | inr (inl e) ↦ inl e | inr (inr x) ↦ inr (more.0 (inr x)) ]),
      (elim [ inl e ↦ inr (inl e) | inr x ↦ elim (more.1 x) [ inl e ↦ inl e | inr y ↦ inr (inr y) ] ]),
    )

same-keys : (s : KeySet) (ks ls : List (List ℕ)) → ((q : List ℕ) → IsAmong q ks ↔ IsAmong q ls) → HasKeyBytes s ks → HasKeyBytes s ls
same-keys s ks ls e h = record {
  short = λ q m. ((λ x. (e q.items).0 ((h.short q m).0 x)), (λ x. (h.short q m).1 ((e q.items).1 x)));
  long = λ q m. ((λ x. (e q.items).0 ((h.long q m).0 x)), (λ x. (h.long q m).1 ((e q.items).1 x)));
}

-- ---- parts

pub held-given : (b : List ℕ) (ss : List KeySet) (os : List Open) → AreHeld ss os → AreHeldSoFar ss (give b os)
held-given b [] [] h = tt
held-given b (s ∷ ss) (a_key ps k ∷ os) h = (same-keys s (k ∷ pair_keys ps) (pair_keys (ps ++ pair k b ∷ [])) (among-more ps k b) h.0, h.1)
held-given b (s ∷ ss) (_ ∷ os) h = h
held-given b _ _ h = absurd h

pub held-closed : (o : KeyOrder) (s : KeySet) (ss : List KeySet) (os : List Open) → AreHeldSoFar (s ∷ ss) os → AreHeldSoFar ss (close o os)
held-closed o s ss [] h = absurd h
held-closed o s ss (c ∷ os) h = held-given (closed o c) ss os h.1

pub held-opened : (m : Major) (n : ℕ) (s : KeySet) (ss : List KeySet) (os : List Open) → IsContainer m → HasKeyBytes s [] → AreHeld ss os → AreHeldSoFar (s ∷ ss) (opened m n ∷ os)
held-opened majors.Array n s ss os i e h = (e, h)
held-opened majors.Map n s ss os i e h = (e, h)
held-opened majors.Tag n s ss os i e h = (e, h)
held-opened _ n s ss os i e h = absurd i

-- no key waits where a break may come
pub held-broken : (o : KeyOrder) (ss : List KeySet) (ls : List Level) (next : Place) → Ends (map frame ls) next → AreHeld ss (opens o ls) → AreHeldSoFar ss (opens o ls)
held-broken o [] (l ∷ ls) next e h = absurd h
held-broken o (s ∷ ss) (levels.some_member done ∷ ls) next e h = h
held-broken o (s ∷ ss) (levels.some_key done ∷ ls) next e h = h
held-broken o _ _ next e h = absurd e

-- ---- the key that has just come

pub none-waits : (ss : List KeySet) (os : List Open) → ((q : List ℕ) → IsWaitingKey os q → ⊥) → AreHeldSoFar ss os → AreHeld ss os × (IsRepeatedKey os → ⊥)
none-waits [] [] w h = (tt, (λ x. x))
none-waits (s ∷ ss) (a_key ps k ∷ os) w h = absurd (w k refl)
none-waits (s ∷ ss) (_ ∷ os) w h = (h, (λ x. x))
none-waits _ _ w h = absurd h

-- the keys that it is held against
abbrev pub keys_at_top : List Open → List (List ℕ)
keys_at_top [] = []
keys_at_top (c ∷ os) = keys_before c

pub top-held : (s : KeySet) (ss : List KeySet) (os : List Open) → AreHeldSoFar (s ∷ ss) os → HasKeyBytes s (keys_at_top os)
top-held s ss [] h = absurd h
top-held s ss (c ∷ os) h = h.0

pub fresh-key : (s new : KeySet) (ss : List KeySet) (os : List Open) (q : List ℕ) → IsWaitingKey os q → AreHeldSoFar (s ∷ ss) os → IsAdded q (keys_at_top os) new true → AreHeld (new ∷ ss) os × (IsRepeatedKey os → ⊥)
fresh-key s new ss [] q w h a = absurd h
fresh-key s new ss (a_key ps k ∷ os) q w h a =
    ((subst (λ (x : List ℕ). HasKeyBytes new (x ∷ pair_keys ps)) w a.1, h.1), (λ x. a.0 (subst (λ (y : List ℕ). IsAmong y (pair_keys ps)) (sym w) ((among-exactly ps k).1 x))))
fresh-key s new ss (_ ∷ os) q w h a = absurd w

pub old-key : (os : List Open) (q : List ℕ) (new : KeySet) → IsWaitingKey os q → IsAdded q (keys_at_top os) new false → IsRepeatedKey os
old-key (a_key ps k ∷ os) q new w a = (among-exactly ps k).0 (subst (λ (y : List ℕ). IsAmong y (pair_keys ps)) w a)
old-key _ q new w a = absurd w

-- ---- a container ends

-- the whole is open around them all
pub record HasOne (os : List Open) : Type 0 where
  pub c : Open
  pub rest : List Open
  pub are : os ≡ c ∷ rest

pub some-opens : (o : KeyOrder) (ls : List Level) → HasOne (opens o ls)
some-opens o [] = record { c = plain []; rest = []; are = refl }
some-opens o (l ∷ ls) = record { c = level_open o l; rest = opens o ls; are = refl }

pub held-popped : (o : KeyOrder) (ss now : List KeySet) (c : Open) (os : List Open) → HasOne os → ((s u : KeySet) (rest : List KeySet) → ss ≡ s ∷ u ∷ rest → now ≡ u ∷ rest) → AreHeldSoFar ss (c ∷ os)
    → AreHeldSoFar now (close o (c ∷ os))
held-popped o [] now c os more popped h = absurd h
held-popped o (s ∷ []) now c (d ∷ os) more popped h = absurd h.1
held-popped o (s ∷ u ∷ ss) now c (d ∷ os) more popped h =
    subst (λ (xs : List KeySet). AreHeldSoFar xs (close o (c ∷ d ∷ os))) (sym (popped s u ss refl)) (held-closed o s (u ∷ ss) (c ∷ d ∷ os) h)
held-popped o _ now c [] more popped h = absurd (cc more.are)
