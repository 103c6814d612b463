-- Looking for a key among the pairs of its map.
use Rattle.std.proofs.Common.{◌≡◌, ◌↔◌, ℕ, ◌+◌, ◌<◌, ◌≤◌, ◌⊎◌, List, [], ◌∷◌, ◌++◌, length, drop, get_or, map, false, true≢false, inl, inr, refl, sym, ap, ◌∙◌, subst, IsTrue}
use Rattle.std.{specs.List.AllByRecursion, specs.Ordering.is_eq, specs.declared.cmp.Ordering.Ordering, proofs.lemmas.Cmp.tied_itself}
use Rattle.std.proofs.lemmas.List.{drop_all, get_or_default}
use Rattle.cbor_head.specs.Prelude.{key_cmp, key_lt, Value, Entries, HasEntry, Same, AreBytes, AreEntriesInRange, IsInRange, IsValid, Pair, canonical, canonical_entries}
use Rattle.cbor_head.specs.{Value.no_entries, Value.entry, declared.order.KeyOrder.KeyOrder}
use Rattle.theory_values.{specs.Pairs.IsRising, specs.Pairs.AreKeysValid, proofs.Keys.same_exactly, proofs.Orders.key_cmp_total, proofs.Orders.lt_irrefl}
use Rattle.theory_values.proofs.Sound.{IsSound, sound}
use Rattle.cbor_builder.specs.inner.Prefix.{key_of, IsPrefixed, ArePrefixed, rank, ranked_by}
use Rattle.cbor_builder.{specs.inner.Spans.span_pair, specs.declared.span.Span.Span, proofs.ByIndex.at_read, proofs.ByIndex.all_index}
use Rattle.cbor_builder.{specs.Built.HasKey, specs.Built.HasSameKey, proofs.Ranks.agree_spans, proofs.Ranks.equal_keys}

key_at : (f : Span → Pair) (ks : List Span) (i : ℕ) (x : Span) (k : List ℕ) → i < length ks → x ≡ get_or ks i x
    → HasKey (map f (drop i ks)) k ↔ (((f x).key ≡ k) ⊎ HasKey (map f (drop (i + 1) ks)) k)
key_at f ks i x k l e = subst (λ us. HasKey (map f us) k ↔ (((f x).key ≡ k) ⊎ HasKey (map f (drop (i + 1) ks)) k)) (sym (at_read ks i x l e)) ((λ h. h), (λ h. h))

pub key_step : (o : KeyOrder) (out : List ℕ) (ks : List Span) (i : ℕ) (d y : Span) (r : Ordering) → AreBytes out → ArePrefixed out ks → IsPrefixed out y → i < length ks
    → r ≡ rank o (ranked_by out (get_or ks i d)) (ranked_by out y)
    → HasKey (map (span_pair out) (drop i ks)) (key_of out y) ↔ (IsTrue (is_eq r) ⊎ HasKey (map (span_pair out) (drop (i + 1) ks)) (key_of out y))
key_step o out ks i d y r b fr fy l h0 =
    let x = get_or ks i d in
    let h = h0 ∙ agree_spans o out x y b (all_index _ ks i d fr l) fy in
    let step = key_at (span_pair out) ks i x (key_of out y) l (get_or_default ks i d x l) in (
      (λ a. elim (step.0 a) [
        | inl e ↦ inl (ap is_eq (h ∙ ap (λ (k : List ℕ). key_cmp o k (key_of out y)) e ∙ tied_itself (key_cmp_total o) (key_of out y)))
        | inr n ↦ inr n
      ]),
      (λ a. elim a [
        | inl t ↦ step.1 (inl (equal_keys o (key_of out x) (key_of out y) (ap is_eq (sym h) ∙ t)))
        | inr n ↦ step.1 (inr n)
      ]),
    )

-- the current key is another
pub passed : {P Q R : Type 0} (r : Ordering) → (P ↔ Q) → (Q ↔ (IsTrue (is_eq r) ⊎ R)) → is_eq r ≡ false → (P ↔ R)
passed r inv step e = (
  (λ p. elim (step.0 (inv.0 p)) [ inl t ↦ absurd (true≢false (sym t ∙ e)) | inr n ↦ n ]),
  (λ n. inv.1 (step.1 (inr n))),
)

pub no_key_left : (out : List ℕ) (ks : List Span) (i : ℕ) (k : List ℕ) → length ks ≤ i → HasKey (map (span_pair out) (drop i ks)) k → ⊥
no_key_left out ks i k l h = subst (λ (us : List Span). HasKey (map (span_pair out) us) k) (drop_all i ks l) h

-- a key above all of them is not one of them
pub above_other : (o : KeyOrder) (out : List ℕ) (ks : List Span) (next : Span) → IsRising o (map (span_pair out) (ks ++ next ∷ [])) → HasKey (map (span_pair out) ks) (key_of out next) → ⊥
above_other o out [] next r h = absurd h
above_other o out (k ∷ ks) next r (inl e) = lt_irrefl o (key_of out next) (subst (λ (x : List ℕ). IsTrue (key_lt o x (key_of out next))) e (last ks r.0))
  where
    last : (ss : List Span) → AllByRecursion (λ (q : Pair). IsTrue (key_lt o (key_of out k) q.key)) (map (span_pair out) (ss ++ next ∷ [])) → IsTrue (key_lt o (key_of out k) (key_of out next))
    last [] a = a.0
    last (s ∷ ss) a = last ss a.1
above_other o out (k ∷ ks) next r (inr h) = above_other o out ks next r.1 h

-- ---- by the values of the keys

same_from : (o : KeyOrder) (es : Entries) (k : Value) → AreEntriesInRange es → AreKeysValid es → IsSound k → HasKey (canonical_entries o es) (canonical o k) → HasSameKey es k
same_from o no_entries k h g s n = absurd n
same_from o (entry l w es) k h g s (inl e) = (l, w, inl (refl, refl), (same_exactly o l k (sound l h.0 g.0) s).1 e)
same_from o (entry l w es) k h g s (inr n) = let r = same_from o es k h.2 g.1 s n in (r.0, r.1, inr r.2, r.3)

same_to : (o : KeyOrder) (es : Entries) (k : Value) → AreEntriesInRange es → AreKeysValid es → IsSound k → (l w : Value) → HasEntry es l w → Same l k → HasKey (canonical_entries o es) (canonical o k)
same_to o no_entries k h g s l w m e = absurd m
same_to o (entry l' w' es) k h g s l w (inl m) e = inl ((same_exactly o l' k (sound l' h.0 g.0) s).0 (subst (λ (v : Value). Same v k) m.0 e))
same_to o (entry l' w' es) k h g s l w (inr m) e = inr (same_to o es k h.2 g.1 s l w m e)

pub same_key_exactly : (o : KeyOrder) (es : Entries) (k : Value) → AreEntriesInRange es → AreKeysValid es → IsInRange k → IsValid k
    → HasKey (canonical_entries o es) (canonical o k) ↔ HasSameKey es k
same_key_exactly o es k h g r v = (same_from o es k h g (sound k r v), (λ s. same_to o es k h g (sound k r v) s.0 s.1 s.2 s.3))
