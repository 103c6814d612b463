-- The normal spelling has no strict complaint.
use Rattle.std.proofs.Common.{◌≡◌, ℕ, ◌+◌, ◌^◌, ◌<◌, List, [], ◌∷◌, length, inl, inr, refl, sym, ap, subst, IsTrue}
use Rattle.cbor_head.specs.Value as value
use Rattle.cbor_head.specs.Prelude.{Holds, shortest, Value, Values, Entries, values_count, AreInRange, AreValid, AreEntriesInRange, AreEntriesValid, Spelling, SpelledEntries, no_entries, entry, spell, key_lt, Pair, canonical_entries, strict, Complaint, OfCount, OfKey}
use Rattle.cbor_head.specs.declared.{order.KeyOrder.KeyOrder, major.Major.Major, major.Major.TheVariants.Array, major.Major.TheVariants.Map, width.Width.Width}
use Rattle.cbor_head.specs.declared.width.Width.TheVariants.{Indefinite}
use Rattle.theory_values.proofs.Induction.{AllOf, AllIn, by_cases}
use Rattle.theory_values.proofs.Normal.{normal, normal_all, normal_entries, pairs, AllSpelled, put_entry-all, pairs-normal, entries_count-normal, spellings_count-normal, Holds-shortest}
use Rattle.theory_values.specs.{MemberComplaints.ComplainsIn, MemberComplaints.ComplainsInEntries, CanonicalSpelling.IsClean, Pairs.IsRising}
use Rattle.theory_values.proofs.{Members.In, Sorting.rises_at, Sorting.in_order_rising, Sound.IsSound, Sound.sound, Reported.distinct_bytes}

count_clean : (o : KeyOrder) (at : ℕ) (m : Major) (w : Width) (n : ℕ) (c : Complaint) → Holds w n → w ≡ shortest n → OfCount (strict o) at m w n c → ⊥
count_clean o at m Indefinite n c h e x = absurd h
count_clean o at m _ n c h e x = x.1 e

-- a count, in the shortest head of what it is
shortest_clean : (o : KeyOrder) (at : ℕ) (m : Major) (n k : ℕ) (c : Complaint) → k ≡ n → n < 2 ^ 64 → OfCount (strict o) at m (shortest n) k c → ⊥
shortest_clean o at m n k c e h x = count_clean o at m (shortest n) k c (subst (Holds (shortest n)) (sym e) (Holds-shortest n h)) (ap shortest (sym e)) x

abbrev Cleans : KeyOrder → Value → Type 0
Cleans o v = IsSound v → IsClean o (normal o v)

clean_all : (o : KeyOrder) (vs : Values) → AllOf (Cleans o) vs → AreInRange vs → AreValid vs → (at : ℕ) (c : Complaint) → ComplainsIn (strict o) at (normal_all o vs) c → ⊥
clean_all o value.no_values a h g at c x = x
clean_all o (value.a_value v vs) a h g at c (inl x) = a.0 (sound v h.0 g.0) at c x
clean_all o (value.a_value v vs) a h g at c (inr x) = clean_all o vs a.1 h.1 g.1 (at + length (spell (normal o v))) c x

-- the key before, if there is one, is below all that follow
abbrev IsBelow : KeyOrder → List Spelling → SpelledEntries → Type 0
IsBelow o [] es = Unit {0}
IsBelow o (b ∷ bs) es = (p : Pair) → In p (pairs es) → IsTrue (key_lt o (spell b) p.key)

key_clean : (o : KeyOrder) (before : List Spelling) (k v : Spelling) (es : SpelledEntries) (at : ℕ) (c : Complaint) → IsBelow o before (entry k v es) → OfKey (strict o).keys at before k c → ⊥
key_clean o [] k v es at c b x = x
key_clean o (b' ∷ bs) k v es at c b x = x.0 (b (record { key = spell k; value = spell v }) (inl refl))

entries_clean : (o : KeyOrder) (before : List Spelling) (es : SpelledEntries) → IsBelow o before es → IsRising o (pairs es) → AllSpelled (IsClean o) es
    → (at : ℕ) (c : Complaint) → ComplainsInEntries (strict o) at before es c → ⊥
entries_clean o before no_entries b u a at c x = x
entries_clean o before (entry k v es) b u a at c (inl x) = a.0 at c x
entries_clean o before (entry k v es) b u a at c (inr (inl x)) = key_clean o before k v es at c b x
entries_clean o before (entry k v es) b u a at c (inr (inr (inl x))) = a.1 (at + length (spell k)) c x
entries_clean o before (entry k v es) b u a at c (inr (inr (inr x))) =
    entries_clean o (k ∷ before) es (rises_at o (record { key = spell k; value = spell v }) (pairs es) u) u.1 a.2 (at + length (spell k) + length (spell v)) c x

all_clean : (o : KeyOrder) (es : Entries) → AllIn (Cleans o) es → AreEntriesInRange es → AreEntriesValid es → AllSpelled (IsClean o) (normal_entries o es)
all_clean o value.no_entries a h g = tt
all_clean o (value.entry k v es) a h g =
    put_entry-all (IsClean o) o (normal o k) (normal o v) (normal_entries o es) (a.0 (sound k h.0 g.0)) (a.1 (sound v h.1 g.1)) (all_clean o es a.2 h.2 g.2)

rising : (o : KeyOrder) (es : Entries) → IsSound (value.map es) → IsRising o (pairs (normal_entries o es))
rising o es h = subst (IsRising o) (sym (pairs-normal o es)) (in_order_rising o (canonical_entries o es) (distinct_bytes o es h.range.1 h.valid.1))

pub IsClean-normal : (o : KeyOrder) (v : Value) → IsSound v → IsClean o (normal o v)
IsClean-normal o = by_cases {P = Cleans o} (record {
  at_unsigned = λ n h at c x. x.1 refl;
  at_negative = λ n h at c x. x.1 refl;
  at_bytes = λ s h at c x. x.1 refl;
  at_text = λ s h at c x. elim x [ inl y ↦ y.1 refl | inr y ↦ y.1 h.valid ];
  at_array = λ vs a h at c x. elim x [
    | inl y ↦ shortest_clean o at Array (values_count vs) _ c (spellings_count-normal o vs) h.range.0 y
    | inr y ↦ clean_all o vs a h.range.1 h.valid _ c y
  ];
  at_map = λ es a h at c x. elim x [
    | inl y ↦ shortest_clean o at Map (value.entries_count es) _ c (entries_count-normal o es) h.range.0 y
    | inr y ↦ entries_clean o [] (normal_entries o es) tt (rising o es h) (all_clean o es a h.range.1 h.valid.0) _ c y
  ];
  at_tag = λ n v p h at c x. elim x [ inl y ↦ y.1 refl | inr y ↦ p (sound v h.range.1 h.valid) _ c y ];
  at_simple = λ n h at c x. x;
})
