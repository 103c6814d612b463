-- The parts of a value are an encoding of it.
use Rattle.std.proofs.Common.{◌≡◌, ℕ, suc, ◌≤◌, List, ◌++◌, length, inl, inr, refl, sym, ap, ap₂, ◌∙◌, subst, arith, append-nil}
use Rattle.cbor_head.specs.Value as value
use Rattle.cbor_head.specs.Prelude.{Bounds, shortest, head, break_of, Value, Values, Entries, values_count, IsInRange, AreInRange, AreEntriesInRange, IsValid, AreValid, AreEntriesValid, HasBasicKeys, Spelling, Spellings, SpelledEntries, unsigned, negative, bytes, text, array, a_map, tag, simple, no_spellings, a_spelling, no_entries, entry, IsSpelled, AreSpelled, AreEntriesSpelled, spell, spell_all, spell_entries, spellings_count, entries_count, value_of, values_of, entries_of}
use Rattle.cbor_head.specs.declared.major.Major.TheVariants as majors
use Rattle.cbor_head.specs.Prelude.{plain}
use Rattle.cbor_head.specs.declared.{major.Major.Major, keys.Keys.TheVariants.IntegersAndTexts}
use Rattle.theory_values.proofs.Normal.{Holds-shortest, break_of-shortest}
use Rattle.theory_values.proofs.Normal.{count_held}
use Rattle.theory_values.proofs.{Depth.depth-value_of, BasicKeys.basic_keys}
use Rattle.theory_verdicts.specs.Readers.{IsReadAs}
use Rattle.cbor_reader.specs.{Written.written, Written.written_all, Written.written_pairs, Headline.IsValidItem, Headline.HasValidTexts, Headline.HaveValidTexts, Headline.EntriesHaveValidTexts}
use Rattle.cbor_reader.proofs.{Headline.valid_item_accepted, ValidTexts.plain_exactly}

abbrev mutual
  pub encoding : Value → Spelling
  encoding (value.unsigned n) = unsigned (shortest n) n
  encoding (value.negative n) = negative (shortest n) n
  encoding (value.bytes s) = bytes (shortest (length s)) s
  encoding (value.text s) = text (shortest (length s)) s
  encoding (value.array vs) = array (shortest (values_count vs)) (encodings vs)
  encoding (value.map es) = a_map (shortest (value.entries_count es)) (pair_encodings es)
  encoding (value.tag n v) = tag (shortest n) n (encoding v)
  encoding (value.simple n) = simple n

  encodings : Values → Spellings
  encodings value.no_values = no_spellings
  encodings (value.a_value v vs) = a_spelling (encoding v) (encodings vs)

  pair_encodings : Entries → SpelledEntries
  pair_encodings value.no_entries = no_entries
  pair_encodings (value.entry k v es) = entry (encoding k) (encoding v) (pair_encodings es)

count : (vs : Values) → spellings_count (encodings vs) ≡ values_count vs
count value.no_values = refl
count (value.a_value v vs) = ap suc (count vs)

pair_count : (es : Entries) → entries_count (pair_encodings es) ≡ value.entries_count es
pair_count value.no_entries = refl
pair_count (value.entry k v es) = ap suc (pair_count es)

mutual
  pub value_is : (v : Value) → value_of (encoding v) ≡ v
  value_is (value.unsigned n) = refl
  value_is (value.negative n) = refl
  value_is (value.bytes s) = refl
  value_is (value.text s) = refl
  value_is (value.array vs) = ap value.array (values_are vs)
  value_is (value.map es) = ap value.map (pairs_are es)
  value_is (value.tag n v) = ap (value.tag n) (value_is v)
  value_is (value.simple n) = refl

  values_are : (vs : Values) → values_of (encodings vs) ≡ vs
  values_are value.no_values = refl
  values_are (value.a_value v vs) = ap₂ value.a_value (value_is v) (values_are vs)

  pairs_are : (es : Entries) → entries_of (pair_encodings es) ≡ es
  pairs_are value.no_entries = refl
  pairs_are (value.entry k v es) = let a = value_is k in let b = value_is v in let c = pairs_are es in λ i. value.entry (a i) (b i) (c i)

-- ---- its bytes

container : (m : Major) (n k : ℕ) (xs ys : List ℕ) → k ≡ n → xs ≡ ys → head m (shortest n) k ++ xs ++ break_of (shortest n) ≡ head m (shortest n) n ++ ys
container m n k xs ys e f =
    ap (λ (l : List ℕ). head m (shortest n) k ++ xs ++ l) (break_of-shortest n) ∙ append-nil (head m (shortest n) k ++ xs)
    ∙ ap₂ (λ (j : ℕ) (l : List ℕ). head m (shortest n) j ++ l) e f

mutual
  pub bytes_are : (v : Value) → spell (encoding v) ≡ written v
  bytes_are (value.unsigned n) = refl
  bytes_are (value.negative n) = refl
  bytes_are (value.bytes s) = refl
  bytes_are (value.text s) = refl
  bytes_are (value.array vs) = container majors.Array (values_count vs) (spellings_count (encodings vs)) (spell_all (encodings vs)) (written_all vs) (count vs) (all_bytes_are vs)
  bytes_are (value.map es) = container majors.Map (value.entries_count es) (entries_count (pair_encodings es)) (spell_entries (pair_encodings es)) (written_pairs es) (pair_count es) (pair_bytes_are es)
  bytes_are (value.tag n v) = ap (λ (l : List ℕ). head majors.Tag (shortest n) n ++ l) (bytes_are v)
  bytes_are (value.simple n) = refl

  all_bytes_are : (vs : Values) → spell_all (encodings vs) ≡ written_all vs
  all_bytes_are value.no_values = refl
  all_bytes_are (value.a_value v vs) = ap₂ (λ (x y : List ℕ). x ++ y) (bytes_are v) (all_bytes_are vs)

  pair_bytes_are : (es : Entries) → spell_entries (pair_encodings es) ≡ written_pairs es
  pair_bytes_are value.no_entries = refl
  pair_bytes_are (value.entry k v es) = ap₂ (λ (x y : List ℕ). x ++ y) (ap₂ (λ (x y : List ℕ). x ++ y) (bytes_are k) (bytes_are v)) (pair_bytes_are es)

-- ---- it is one, with valid texts

mutual
  pub spelled : (v : Value) → IsInRange v → IsSpelled (encoding v)
  spelled (value.unsigned n) h = Holds-shortest n h
  spelled (value.negative n) h = Holds-shortest n h
  spelled (value.bytes s) h = (Holds-shortest (length s) h.0, h.1)
  spelled (value.text s) h = (Holds-shortest (length s) h.0, h.1)
  spelled (value.array vs) h = (count_held _ _ (count vs) h.0, all_spelled vs h.1)
  spelled (value.map es) h = (count_held _ _ (pair_count es) h.0, pairs_spelled es h.1)
  spelled (value.tag n v) h = (Holds-shortest n h.0, spelled v h.1)
  spelled (value.simple n) h = h

  all_spelled : (vs : Values) → AreInRange vs → AreSpelled (encodings vs)
  all_spelled value.no_values h = tt
  all_spelled (value.a_value v vs) h = (spelled v h.0, all_spelled vs h.1)

  pairs_spelled : (es : Entries) → AreEntriesInRange es → AreEntriesSpelled (pair_encodings es)
  pairs_spelled value.no_entries h = tt
  pairs_spelled (value.entry k v es) h = (spelled k h.0, spelled v h.1, pairs_spelled es h.2)

mutual
  pub texts : (v : Value) → IsValid v → HasValidTexts (encoding v)
  texts (value.unsigned n) g = tt
  texts (value.negative n) g = tt
  texts (value.bytes s) g = tt
  texts (value.text s) g = g
  texts (value.array vs) g = all_texts vs g
  texts (value.map es) g = pair_texts es g.0
  texts (value.tag n v) g = texts v g
  texts (value.simple n) g = tt

  all_texts : (vs : Values) → AreValid vs → HaveValidTexts (encodings vs)
  all_texts value.no_values g = tt
  all_texts (value.a_value v vs) g = (texts v g.0, all_texts vs g.1)

  pair_texts : (es : Entries) → AreEntriesValid es → EntriesHaveValidTexts (pair_encodings es)
  pair_texts value.no_entries g = tt
  pair_texts (value.entry k v es) g = (texts k g.0, texts v g.1, pair_texts es g.2)

-- ---- so it is the one valid item that these bytes are

pub is_valid_item : (limits : Bounds) (v : Value) → IsInRange v → IsValid v → (limits.keys ≡ IntegersAndTexts → HasBasicKeys v) → value.depth v ≤ limits.depth → length (written v) ≤ limits.bytes → IsValidItem limits (written v) (encoding v)
is_valid_item limits v h g k d l = record {
  well_formed = record { spelled = spelled v h; within = omega (arith, d, depth-value_of (encoding v), ap value.depth (value_is v)); bytes_are = bytes_are v };
  valid = λ c x.
      elim x [
        | inl y ↦ (plain_exactly (encoding v) 0).1 (texts v g, subst IsValid (sym (value_is v)) g) c y
        | inr y ↦ (basic_keys (encoding v) 0).1 (subst HasBasicKeys (sym (value_is v)) (k y.1)) c y.2
      ];
  fits = l;
}

pub is_read : (limits : Bounds) (v : Value) → IsInRange v → IsValid v → (limits.keys ≡ IntegersAndTexts → HasBasicKeys v) → value.depth v ≤ limits.depth → length (written v) ≤ limits.bytes → IsReadAs limits plain (written v) v (length (written v))
is_read limits v h g k d l = record {
  read = record { item = encoding v; verdict = valid_item_accepted limits (written v) (encoding v) (is_valid_item limits v h g k d l); size = ap length (sym (bytes_are v)) };
  value = sym (value_is v);
}
