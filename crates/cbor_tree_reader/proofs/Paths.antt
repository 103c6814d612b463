-- From part to part of an item: which keys are known to differ, and where each open item began.
use Rattle.std.proofs.Common.{◌≡◌, ◌≢◌, ℕ, zero, ◌<◌, ◌≤◌, List, [], ◌∷◌, ◌++◌, length, take, slice_get, get_or, Some, ap, sym, ◌∙◌, inl, inr, arith, get_or-take, length-append, length-take-le}
use Rattle.std.proofs.lemmas.Option.{get_or_from_slice_get, slice_get-get_or, slice_get_within}
use Rattle.std.{specs.List.AllByRecursion, proofs.Math.ListN.get_or-append, proofs.Math.Seq.get_or-append_seam}
use Rattle.cbor_head.specs.declared.major.Major.TheVariants as majors
use Rattle.cbor_head.specs.{Prelude.Pair, Prelude.Spelling, declared.major.Major.Major, declared.order.KeyOrder.KeyOrder}
use Rattle.theory_values.specs.Parts.{Open, a_map, a_key, pair, closed, give, close, opened, HasNoRepeats}
use Rattle.theory_values.specs.Pairs.{HasDistinctBytes}
use Rattle.cbor_builder.specs.Built.{HasKey, IsRepeatedKey, IsContainer}
use Rattle.theory_verdicts.specs.Levels as levels
use Rattle.theory_verdicts.specs.Levels.{Level, bytes_before, settle}
use Rattle.cbor_tree_reader.specs.inner.TreeItems.{HasKeysApart, AreApart, AreApartSoFar, HaveBegun, HaveBegunIn, HasItsPlace}

-- ---- keys

-- one pair more, whose key is none of these
pub distinct-more : (ps : List Pair) (k b : List ℕ) → HasDistinctBytes ps → (HasKey ps k → ⊥) → HasDistinctBytes (ps ++ pair k b ∷ [])
distinct-more [] k b h fresh = (tt, tt)
distinct-more (p ∷ ps) k b h fresh = (all ps h.0, distinct-more ps k b h.1 (λ x. fresh (inr x)))
  where
    all : (qs : List Pair) → AllByRecursion (λ q. q.key ≢ p.key) qs → AllByRecursion (λ q. q.key ≢ p.key) (qs ++ pair k b ∷ [])
    all [] g = ((λ e. fresh (inl (sym e))), tt)
    all (q ∷ qs) g = (g.0, all qs g.1)

pub given-apart : (b : List ℕ) (os : List Open) → AreApart os → AreApartSoFar (give b os)
given-apart b [] h = tt
given-apart b (a_map ps ∷ os) h = (h.0, h.2)
given-apart b (a_key ps k ∷ os) h = (distinct-more ps k b h.0 h.1, h.2)
given-apart b (_ ∷ os) h = (tt, h.2)

pub closed-apart : (o : KeyOrder) (os : List Open) → AreApartSoFar os → AreApartSoFar (close o os)
closed-apart o [] h = tt
closed-apart o (c ∷ os) h = given-apart (closed o c) os h.1

pub opened-apart : (m : Major) (n : ℕ) (os : List Open) → IsContainer m → AreApart os → AreApartSoFar (opened m n ∷ os)
opened-apart majors.Array n os i h = (tt, h)
opened-apart majors.Map n os i h = (tt, h)
opened-apart majors.Tag n os i h = (tt, h)
opened-apart _ n os i h = absurd i

pub so-far : (os : List Open) → AreApart os → AreApartSoFar os
so-far [] h = tt
so-far (c ∷ os) h = (h.0, h.2)

-- the key that has just come is fresh
pub apart-now : (os : List Open) → AreApartSoFar os → (IsRepeatedKey os → ⊥) → AreApart os
apart-now [] h fresh = tt
apart-now (c ∷ os) h fresh = (h.0, fresh, h.1)

-- what ends has no two keys that are the same
pub ends-apart : (c : Open) → HasKeysApart c → HasNoRepeats c
ends-apart (a_map ps) h = h
ends-apart _ h = tt

-- ---- places

-- after an item that is complete
pub settled-begun : (xs : List ℕ) (ls : List Level) (s : Spelling) → HaveBegun xs ls → HaveBegunIn xs (settle ls s)
settled-begun xs [] s h = tt
settled-begun xs (levels.a_member w zero done ∷ ls) s h = h.1
settled-begun xs (levels.a_value w zero done k ∷ ls) s h = h.1
settled-begun xs (levels.tagged w n ∷ ls) s h = h.1
settled-begun xs _ s h = h

pub settled-place : (xs : List ℕ) (ls : List Level) (s : Spelling) → HaveBegun xs ls → slice_get xs (length ls) ≡ Some (length (bytes_before ls)) → HasItsPlace xs (settle ls s)
settled-place xs (levels.a_member w zero done ∷ ls) s h e = h.0
settled-place xs (levels.a_key w left done ∷ ls) s h e = e
settled-place xs (levels.some_key done ∷ ls) s h e = e
settled-place xs (levels.a_value w zero done k ∷ ls) s h e = h.0
settled-place xs (levels.tagged w n ∷ ls) s h e = h.0
settled-place xs _ s h e = tt

-- an item begins
pub begun-space : (xs : List ℕ) (ls : List Level) → HaveBegun xs ls → length ls ≤ length xs
begun-space xs [] h = omega arith
begun-space xs (l ∷ ls) h = omega (arith, slice_get_within xs (length ls) (length (bytes_before ls)) h.0)

-- what begins within i containers does not change those around it
pub begun-more : (xs : List ℕ) (ls : List Level) (i place : ℕ) → length ls ≤ i → i ≤ length xs → HaveBegun xs ls → HaveBegun (take i xs ++ place ∷ []) ls
begun-more xs [] i place l space h = tt
begun-more xs (m ∷ ls) i place l space h =
    let at = slice_get_within xs (length ls) (length (bytes_before ls)) h.0 in
    let less : length ls < i = omega (arith, l) in
    let size = length-take-le i xs space in (
      slice_get-get_or (take i xs ++ place ∷ []) (length ls) 0 (omega (arith, less, size, length-append (take i xs) (place ∷ [])))
          ∙ ap (λ (n : ℕ). Some n) (get_or-append (take i xs) (place ∷ []) 0 (length ls) (omega (arith, less, size)) ∙ get_or-take i xs (length ls) 0 less ∙ get_or_from_slice_get xs (length ls) (length (bytes_before ls)) 0 h.0),
      begun-more xs ls i place (omega (arith, l)) space h.1,
    )

pub begins-at : (xs : List ℕ) (i place : ℕ) → i ≤ length xs → slice_get (take i xs ++ place ∷ []) i ≡ Some place
begins-at xs i place space =
    let size = length-take-le i xs space in
    slice_get-get_or (take i xs ++ place ∷ []) i 0 (omega (arith, size, length-append (take i xs) (place ∷ [])))
    ∙ ap (λ (n : ℕ). Some n) (ap (λ (k : ℕ). get_or (take i xs ++ place ∷ []) k 0) (sym size) ∙ get_or-append_seam (take i xs) place [] 0)
