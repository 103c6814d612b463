-- Values as they are decoded: the pairs of each map are in the order of its bytes.
use Rattle.std.proofs.Common.{◌≡◌, ℕ, List, ◌∷◌, ◌++◌, flat_map, refl, sym, ap, ap₂, ◌∙◌, subst, arith, inl, inr}
use Rattle.cbor_head.specs.Value as value
use Rattle.cbor_head.specs.Prelude.{Value, Values, Entries, HasEntry, IsInRange, AreInRange, AreEntriesInRange, IsValid, AreValid, AreEntriesValid, Pair, canonical, canonical_all, canonical_entries, in_order, Spelling, SpelledEntries, no_entries, entry, spell, spell_all, spell_entries, entries_count, value_of, values_of, entries_of, AreSpelled, AreEntriesSpelled}
use Rattle.cbor_head.specs.declared.order.KeyOrder.{KeyOrder}
use Rattle.theory_values.proofs.Normal.{AllSpelled, normal, normal_all, normal_entries, pairs, put_entry-all, pairs-normal, spell-normal, spellings_count-normal, IsSpelled-normal}
use Rattle.theory_values.{specs.Pairs.pair_bytes, proofs.Theorems.canonical_again}
use Rattle.cbor_cursor.specs.Decoded.{decoded, Encoded, encoded, value_in, EncodedItems, members_in, pairs_in}
use Rattle.cbor_cursor.specs.inner.Canonical.{IsCanonical, encoded_items, AreCanonical, AreCanonicalPairs}
use Rattle.cbor_cursor.proofs.Decoding.{decoded_is, members_are, pairs_are}

-- decoding its canonical bytes gives the value itself
abbrev pub IsNormal : KeyOrder → Value → Type 0
IsNormal o v = v ≡ value_of (normal o v)

pub decoded_normal : (o : KeyOrder) (v : Value) (xs : List ℕ) → IsInRange v → xs ≡ canonical o v → decoded xs ≡ value_of (normal o v)
decoded_normal o v xs h e = decoded_is xs (normal o v) (IsSpelled-normal o v h) (e ∙ sym (spell-normal o v))

-- ---- one item

pub record IsPart (o : KeyOrder) (v : Value) (xs : List ℕ) : Type 0 where
  pub value_is : decoded xs ≡ v
  pub canonical_is : IsCanonical (encoded o xs)

pub part : (o : KeyOrder) (v : Value) (xs : List ℕ) → IsInRange v → IsValid v → IsNormal o v → xs ≡ canonical o v → IsPart o v xs
part o v xs h g n e =
    let is : decoded xs ≡ v = decoded_normal o v xs h e ∙ sym n in
    record {
      value_is = is;
      canonical_is = record { range = subst IsInRange (sym is) h; valid = subst IsValid (sym is) g; bytes_are = e ∙ ap (canonical o) (sym is) };
    }

pub whole_normal : (e : Encoded) → IsCanonical e → IsNormal e.order (value_in e)
whole_normal e c = decoded_normal e.order (value_in e) e.bytes c.range c.bytes_are

-- what the canonical bytes of any value decode to
pub record IsAgain (o : KeyOrder) (v w : Value) : Type 0 where
  pub range : IsInRange w
  pub valid : IsValid w
  pub normal_is : IsNormal o w
  pub bytes_are : canonical o w ≡ canonical o v

pub again : (o : KeyOrder) (v : Value) → IsInRange v → IsValid v → IsAgain o v (value_of (normal o v))
again o v h g =
    let r = canonical_again o o v (normal o v) h g (IsSpelled-normal o v h) (spell-normal o v) in
    record {
      range = r.0;
      valid = r.1;
      normal_is = sym (decoded_normal o v (canonical o v) h refl) ∙ decoded_normal o (value_of (normal o v)) (canonical o v) r.0 (sym r.2);
      bytes_are = r.2;
    }

pub part_again : (o : KeyOrder) (v : Value) (xs : List ℕ) → IsInRange v → IsValid v → xs ≡ canonical o v → IsPart o (value_of (normal o v)) xs
part_again o v xs h g e = let a = again o v h g in part o (value_of (normal o v)) xs a.range a.valid a.normal_is (e ∙ sym a.bytes_are)

-- ---- members

abbrev pub AreNormal : KeyOrder → Values → Type 0
AreNormal o vs = vs ≡ values_of (normal_all o vs)

abbrev spelled_all : (o : KeyOrder) (vs : Values) → AreInRange vs → AreSpelled (normal_all o vs)
spelled_all o value.no_values h = tt
spelled_all o (value.a_value v vs) h = (IsSpelled-normal o v h.0, spelled_all o vs h.1)

spell_all-normal : (o : KeyOrder) (vs : Values) → spell_all (normal_all o vs) ≡ canonical_all o vs
spell_all-normal o value.no_values = refl
spell_all-normal o (value.a_value v vs) = ap₂ (λ (x y : List ℕ). x ++ y) (spell-normal o v) (spell_all-normal o vs)

pub members_normal : (o : KeyOrder) (vs : Values) (xs : List ℕ) (n : ℕ) → AreInRange vs → n ≡ value.values_count vs → xs ≡ canonical_all o vs → members_in (encoded_items o xs n) ≡ values_of (normal_all o vs)
members_normal o vs xs n h c e = members_are o xs n (normal_all o vs) (spelled_all o vs h) (spellings_count-normal o vs ∙ sym c) (e ∙ sym (spell_all-normal o vs))

pub record AreParts (o : KeyOrder) (vs : Values) (xs : List ℕ) (n : ℕ) : Type 0 where
  pub values_are : members_in (encoded_items o xs n) ≡ vs
  pub canonical_are : AreCanonical (encoded_items o xs n)

pub parts : (o : KeyOrder) (vs : Values) (xs : List ℕ) (n : ℕ) → AreInRange vs → AreValid vs → AreNormal o vs → n ≡ value.values_count vs → xs ≡ canonical_all o vs → AreParts o vs xs n
parts o vs xs n h g m c e =
    let are : members_in (encoded_items o xs n) ≡ vs = members_normal o vs xs n h c e ∙ sym m in
    record {
      values_are = are;
      canonical_are = record { range = subst AreInRange (sym are) h; valid = subst AreValid (sym are) g; count_is = ap value.values_count are ∙ sym c; bytes_are = e ∙ ap (canonical_all o) (sym are) };
    }

pub all_normal : (m : EncodedItems) → AreCanonical m → AreNormal m.order (members_in m)
all_normal m c = members_normal m.order (members_in m) m.bytes m.count c.range (sym c.count_is) c.bytes_are

-- ---- pairs

-- in their order
abbrev spelled_pairs : KeyOrder → Entries → SpelledEntries
spelled_pairs o value.no_entries = no_entries
spelled_pairs o (value.entry k v es) = entry (normal o k) (normal o v) (spelled_pairs o es)

abbrev pub ArePairsNormal : KeyOrder → Entries → Type 0
ArePairsNormal o es = es ≡ entries_of (spelled_pairs o es)

pairs_spelled : (o : KeyOrder) (es : Entries) → AreEntriesInRange es → AreEntriesSpelled (spelled_pairs o es)
pairs_spelled o value.no_entries h = tt
pairs_spelled o (value.entry k v es) h = (IsSpelled-normal o k h.0, IsSpelled-normal o v h.1, pairs_spelled o es h.2)

count_pairs : (o : KeyOrder) (es : Entries) → entries_count (spelled_pairs o es) ≡ value.entries_count es
count_pairs o value.no_entries = refl
count_pairs o (value.entry k v es) = omega (arith, count_pairs o es)

spell_pairs : (o : KeyOrder) (es : Entries) → spell_entries (spelled_pairs o es) ≡ flat_map pair_bytes (canonical_entries o es)
spell_pairs o value.no_entries = refl
spell_pairs o (value.entry k v es) = ap₂ (λ (x y : List ℕ). x ++ y) (ap₂ (λ (x y : List ℕ). x ++ y) (spell-normal o k) (spell-normal o v)) (spell_pairs o es)

pub pairs_normal : (o : KeyOrder) (es : Entries) (xs : List ℕ) (n : ℕ) → AreEntriesInRange es → n ≡ value.entries_count es → xs ≡ flat_map pair_bytes (canonical_entries o es) → pairs_in (encoded_items o xs n) ≡ entries_of (spelled_pairs o es)
pairs_normal o es xs n h c e = pairs_are o xs n (spelled_pairs o es) (pairs_spelled o es h) (count_pairs o es ∙ sym c) (e ∙ sym (spell_pairs o es))

pub record ArePairParts (o : KeyOrder) (es : Entries) (xs : List ℕ) (n : ℕ) : Type 0 where
  pub pairs_are : pairs_in (encoded_items o xs n) ≡ es
  pub canonical_are : AreCanonicalPairs (encoded_items o xs n)

pub pair_parts : (o : KeyOrder) (es : Entries) (xs : List ℕ) (n : ℕ) → AreEntriesInRange es → AreEntriesValid es → ArePairsNormal o es → n ≡ value.entries_count es → xs ≡ flat_map pair_bytes (canonical_entries o es) → ArePairParts o es xs n
pair_parts o es xs n h g m c e =
    let are : pairs_in (encoded_items o xs n) ≡ es = pairs_normal o es xs n h c e ∙ sym m in
    record {
      pairs_are = are;
      canonical_are = record { range = subst AreEntriesInRange (sym are) h; valid = subst AreEntriesValid (sym are) g; count_is = ap value.entries_count are ∙ sym c; bytes_are = e ∙ ap (λ (fs : Entries). flat_map pair_bytes (canonical_entries o fs)) (sym are) };
    }

pub all_pairs_normal : (m : EncodedItems) → AreCanonicalPairs m → ArePairsNormal m.order (pairs_in m)
all_pairs_normal m c = pairs_normal m.order (pairs_in m) m.bytes m.count c.range (sym c.count_is) c.bytes_are

-- ---- the pairs of a map

-- a key or value of a map's normal encoding
abbrev IsSettled : KeyOrder → Spelling → Type 0
IsSettled o s = (spell s ≡ canonical o (value_of s)) × IsNormal o (value_of s)

settled : (o : KeyOrder) (v : Value) → IsInRange v → IsValid v → IsSettled o (normal o v)
settled o v h g = let a = again o v h g in (spell-normal o v ∙ sym a.bytes_are, a.normal_is)

settled_entries : (o : KeyOrder) (es : Entries) → AreEntriesInRange es → AreEntriesValid es → AllSpelled (IsSettled o) (normal_entries o es)
settled_entries o value.no_entries h g = tt
settled_entries o (value.entry k v es) h g = put_entry-all (IsSettled o) o (normal o k) (normal o v) (normal_entries o es) (settled o k h.0 g.0) (settled o v h.1 g.1) (settled_entries o es h.2 g.2)

pairs_settled : (o : KeyOrder) (fs : SpelledEntries) → AllSpelled (IsSettled o) fs → pairs fs ≡ canonical_entries o (entries_of fs)
pairs_settled o no_entries a = refl
pairs_settled o (entry s u fs) a = ap₂ (λ (p : Pair) (ps : List Pair). p ∷ ps) (ap₂ (λ (x y : List ℕ). record { key = x; value = y }) a.0.0 a.1.0) (pairs_settled o fs a.2)

entries_settled : (o : KeyOrder) (fs : SpelledEntries) → AllSpelled (IsSettled o) fs → ArePairsNormal o (entries_of fs)
entries_settled o no_entries a = refl
entries_settled o (entry s u fs) a = let p = a.0.1 in let q = a.1.1 in let r = entries_settled o fs a.2 in λ i. value.entry (p i) (q i) (r i)

entry_settled : (o : KeyOrder) (fs : SpelledEntries) → AllSpelled (IsSettled o) fs → (k v : Value) → HasEntry (entries_of fs) k v → IsNormal o k × IsNormal o v
entry_settled o no_entries a k v h = absurd h
entry_settled o (entry s u fs) a k v (inl e) = (subst (IsNormal o) (sym e.0) a.0.1, subst (IsNormal o) (sym e.1) a.1.1)
entry_settled o (entry s u fs) a k v (inr h) = entry_settled o fs a.2 k v h

module _ (o : KeyOrder) (es : Entries) (h : AreEntriesInRange es) (g : AreEntriesValid es) (n : IsNormal o (value.map es)) where
  same : es ≡ entries_of (normal_entries o es)
  same = cc n

  pub in_byte_order : in_order o (canonical_entries o es) ≡ canonical_entries o es
  in_byte_order = sym (pairs-normal o es) ∙ pairs_settled o (normal_entries o es) (settled_entries o es h g) ∙ ap (canonical_entries o) (sym same)

  pub map_pairs_normal : ArePairsNormal o es
  map_pairs_normal = subst (ArePairsNormal o) (sym same) (entries_settled o (normal_entries o es) (settled_entries o es h g))

  pub entry_normal : (k v : Value) → HasEntry es k v → IsNormal o k × IsNormal o v
  entry_normal k v m = entry_settled o (normal_entries o es) (settled_entries o es h g) k v (subst (λ (fs : Entries). HasEntry fs k v) same m)
