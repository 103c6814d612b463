-- A spelling without strict complaint spells the canonical bytes of a value in range and valid.
use Rattle.std.proofs.Common.{◌≡◌, ℕ, ◌+◌, ◌^◌, ◌<◌, List, [], ◌∷◌, ◌++◌, length, inl, inr, refl, sym, ap, ◌∙◌, subst, arith, append-nil, IsTrue, flat_map, true≢false}
use Rattle.std.proofs.lemmas.Bool.{true_from_ne_false}
use Rattle.cbor_head.specs.Value as value
use Rattle.cbor_head.specs.Prelude.{shortest, shortest_head, head, values_count, AreInRange, AreValid, AreEntriesInRange, AreEntriesValid, Spelling, Spellings, SpelledEntries, unsigned, negative, bytes, text, byte_chunks, text_chunks, array, a_map, tag, simple, no_spellings, a_spelling, no_entries, entry, spell, spell_all, spell_entries, spellings_count, entries_count, break_of, value_of, values_of, entries_of, IsSpelled, AreSpelled, AreEntriesSpelled, HoldsOrIndefinite, key_lt, Pair, in_order, canonical, canonical_all, canonical_entries, strict, Complaint, Complains, OfHead, OfCount}
use Rattle.cbor_head.specs.declared.major.Major.TheVariants.{Unsigned, Negative, Bytes, Text, Array, Map, Tag}
use Rattle.cbor_head.specs.declared.{order.KeyOrder.KeyOrder, major.Major.Major, width.Width.Width, width.Width.TheVariants.Indefinite}
use Rattle.theory_values.proofs.Counts.{holds_fits, values_count-of, entries_count-of}
use Rattle.theory_values.proofs.Sorting.{rising_cons, rising_distinct, in_order-rising}
use Rattle.theory_values.proofs.Sound.{IsSound, sound, valid_apart}
use Rattle.theory_values.proofs.Normal.{pairs, spell_entries-pairs, break_of-shortest}
use Rattle.theory_values.specs.{MemberComplaints.ComplainsIn, MemberComplaints.ComplainsInEntries, Pairs.IsRising, Pairs.pair_bytes}
use Rattle.theory_values.proofs.{Members.In, Orders.lt_trans, Stable.width_stable, Stable.utf8_stable, Keys.distinct_from_bytes}

-- ---- spelled pairs without complaint

-- no key of es is equal to the key before them or comes before it
below_all : (o : KeyOrder) (es : SpelledEntries) (b : Spelling) (bs : List Spelling) (at : ℕ) → ((c : Complaint) → ComplainsInEntries (strict o) at (b ∷ bs) es c → ⊥)
    → (p : Pair) → In p (pairs es) → IsTrue (key_lt o (spell b) p.key)
below_all o no_entries b bs at n p m = absurd m
below_all o (entry k v es) b bs at n p m =
    let up : IsTrue (key_lt o (spell b) (spell k)) = true_from_ne_false _ (λ e. n _ (inr (inl ((λ t. true≢false (sym t ∙ e)), refl)))) in
    let rest = below_all o es k (b ∷ bs) (at + length (spell k) + length (spell v)) (λ c x. n c (inr (inr (inr x)))) in
    elim m [
      | inl e ↦ subst (λ (q : Pair). IsTrue (key_lt o (spell b) q.key)) (sym e) up
      | inr l ↦ lt_trans o (spell b) (spell k) p.key up (rest p l)
    ]

-- ---- heads

head_clean : (o : KeyOrder) (at : ℕ) (m : Major) (w : Width) (n : ℕ) → ((c : Complaint) → OfHead (strict o) at m w n c → ⊥) → w ≡ shortest n
head_clean o at m w n f = width_stable w (shortest n) (λ e. f _ (refl, e, refl))

-- a count in its shortest head, of what the value has as many of
record IsCounted (w : Width) (n k : ℕ) : Type 0 where
  shortest_is : w ≡ shortest n
  count : k ≡ n
  fits : k < 2 ^ 64

counted : (o : KeyOrder) (at : ℕ) (m : Major) (w : Width) (n k : ℕ) → k ≡ n → HoldsOrIndefinite w n → ((c : Complaint) → OfCount (strict o) at m w n c → ⊥) → IsCounted w n k
counted o at m Indefinite n k e h f = absurd (f _ (refl, refl))
counted o at m w n k e h f = record { shortest_is = head_clean o at m w n f; count = e; fits = omega arith }

-- the bytes of an array or map whose count is so
counted_bytes : (m : Major) (w : Width) (n k : ℕ) (xs ys : List ℕ) → IsCounted w n k → xs ≡ ys → head m w n ++ xs ++ break_of w ≡ shortest_head m k ++ ys
counted_bytes m w n k xs ys c e =
    let s : w ≡ shortest k = c.shortest_is ∙ ap shortest (sym c.count) in
    (λ i. (head m (s i) (sym c.count i) ++ e i) ++ break_of (s i)) ∙ (λ i. (shortest_head m k ++ ys) ++ break_of-shortest k i) ∙ append-nil _

-- ---- the induction

pub record IsStrict (o : KeyOrder) (s : Spelling) : Type 0 where
  pub sound : IsSound (value_of s)
  pub bytes_are : spell s ≡ canonical o (value_of s)

record AreStrict (o : KeyOrder) (ss : Spellings) : Type 0 where
  range : AreInRange (values_of ss)
  valid : AreValid (values_of ss)
  bytes_are : spell_all ss ≡ canonical_all o (values_of ss)

record EntriesAreStrict (o : KeyOrder) (es : SpelledEntries) : Type 0 where
  range : AreEntriesInRange (entries_of es)
  valid : AreEntriesValid (entries_of es)
  pairs_are : pairs es ≡ canonical_entries o (entries_of es)
  rising : IsRising o (pairs es)

strict_array : (o : KeyOrder) (w : Width) (ss : Spellings) → IsCounted w (spellings_count ss) (values_count (values_of ss)) → AreStrict o ss → IsStrict o (array w ss)
strict_array o w ss c r = record {
  sound = sound (value_of (array w ss)) (c.fits, r.range) r.valid;
  bytes_are = counted_bytes Array w (spellings_count ss) (values_count (values_of ss)) (spell_all ss) (canonical_all o (values_of ss)) c r.bytes_are;
}

strict_map : (o : KeyOrder) (w : Width) (es : SpelledEntries) → IsCounted w (entries_count es) (value.entries_count (entries_of es)) → EntriesAreStrict o es → IsStrict o (a_map w es)
strict_map o w es c r =
    let ps = canonical_entries o (entries_of es) in
    let u : IsRising o ps = subst (IsRising o) r.pairs_are r.rising in
    let b : spell_entries es ≡ flat_map pair_bytes (in_order o ps) = spell_entries-pairs es ∙ ap (flat_map pair_bytes) (r.pairs_are ∙ sym (in_order-rising o ps u)) in
    record {
      sound = sound (value_of (a_map w es)) (c.fits, r.range) (r.valid, distinct_from_bytes o (entries_of es) r.range ((valid_apart (entries_of es)).0 r.valid).0 (rising_distinct o ps u));
      bytes_are = counted_bytes Map w (entries_count es) (value.entries_count (entries_of es)) (spell_entries es) (flat_map pair_bytes (in_order o ps)) c b;
    }

module _ (o : KeyOrder) where
  mutual
    pub strict_spelling : (s : Spelling) (at : ℕ) → IsSpelled s → ((c : Complaint) → Complains (strict o) at s c → ⊥) → IsStrict o s
    strict_spelling (unsigned w n) at h f =
        record { sound = sound (value.unsigned n) (holds_fits w n h) tt; bytes_are = ap (λ v. spell (unsigned v n)) (head_clean o at Unsigned w n f) }
    strict_spelling (negative w n) at h f =
        record { sound = sound (value.negative n) (holds_fits w n h) tt; bytes_are = ap (λ v. spell (negative v n)) (head_clean o at Negative w n f) }
    strict_spelling (bytes w s) at h f =
        record { sound = sound (value.bytes s) (holds_fits w (length s) h.0, h.1) tt; bytes_are = ap (λ v. spell (bytes v s)) (head_clean o at Bytes w (length s) f) }
    strict_spelling (text w s) at h f = record {
      sound = sound (value.text s) (holds_fits w (length s) h.0, h.1) (utf8_stable s (λ n. f _ (inr (refl, n, refl))));
      bytes_are = ap (λ v. spell (text v s)) (head_clean o at Text w (length s) (λ c x. f c (inl x)));
    }
    strict_spelling (byte_chunks cs) at h f = absurd (f _ (inl (refl, refl)))
    strict_spelling (text_chunks cs) at h f = absurd (f _ (inl (refl, refl)))
    strict_spelling (array w ss) at h f =
        strict_array o w ss (counted o at Array w (spellings_count ss) _ (values_count-of ss) h.0 (λ c x. f c (inl x))) (strict_spellings ss _ h.1 (λ c x. f c (inr x)))
    strict_spelling (a_map w es) at h f =
        strict_map o w es (counted o at Map w (entries_count es) _ (entries_count-of es) h.0 (λ c x. f c (inl x))) (strict_entries es [] _ h.1 (λ c x. f c (inr x)))
    strict_spelling (tag w n s) at h f =
        let e = head_clean o at Tag w n (λ c x. f c (inl x)) in
        let r = strict_spelling s _ h.1 (λ c x. f c (inr x)) in
        record { sound = sound (value.tag n (value_of s)) (holds_fits w n h.0, r.sound.range) r.sound.valid; bytes_are = λ i. head Tag (e i) n ++ r.bytes_are i }
    strict_spelling (simple n) at h f = record { sound = sound (value.simple n) h tt; bytes_are = refl }

    strict_spellings : (ss : Spellings) (at : ℕ) → AreSpelled ss → ((c : Complaint) → ComplainsIn (strict o) at ss c → ⊥) → AreStrict o ss
    strict_spellings no_spellings at h f = record { range = tt; valid = tt; bytes_are = refl }
    strict_spellings (a_spelling s ss) at h f =
        let r = strict_spelling s at h.0 (λ c x. f c (inl x)) in
        let q = strict_spellings ss (at + length (spell s)) h.1 (λ c x. f c (inr x)) in
        record { range = (r.sound.range, q.range); valid = (r.sound.valid, q.valid); bytes_are = λ i. r.bytes_are i ++ q.bytes_are i }

    strict_entries : (es : SpelledEntries) (before : List Spelling) (at : ℕ) → AreEntriesSpelled es → ((c : Complaint) → ComplainsInEntries (strict o) at before es c → ⊥) → EntriesAreStrict o es
    strict_entries no_entries before at h f = record { range = tt; valid = tt; pairs_are = refl; rising = tt }
    strict_entries (entry k v es) before at h f =
        let r = strict_spelling k at h.0 (λ c x. f c (inl x)) in
        let q = strict_spelling v (at + length (spell k)) h.1 (λ c x. f c (inr (inr (inl x)))) in
        let following : ℕ = at + length (spell k) + length (spell v) in
        let g : (c : Complaint) → ComplainsInEntries (strict o) following (k ∷ before) es c → ⊥ = λ c x. f c (inr (inr (inr x))) in
        let t = strict_entries es (k ∷ before) following h.2 g in
        record {
          range = (r.sound.range, q.sound.range, t.range);
          valid = (r.sound.valid, q.sound.valid, t.valid);
          pairs_are = λ i. record { key = r.bytes_are i; value = q.bytes_are i } ∷ t.pairs_are i;
          rising = rising_cons o (record { key = spell k; value = spell v }) (pairs es) (below_all o es k before following g) t.rising;
        }
