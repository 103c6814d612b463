-- An item has no complaint on the kind of a key exactly if each key of its value is an integer or a text.
use Rattle.std.proofs.Common.{ℕ, ◌+◌, ◌↔◌, List, [], ◌∷◌, refl, length, inl, inr}
use Rattle.cbor_head.specs.Prelude.{head, Value, Values, Entries, HasEntry, Same, SameValues, Covers, IsIntegerOrText, HasBasicKeys, HaveBasicKeys, EntriesHaveBasicKeys, Spelling, Spellings, SpelledEntries, array, a_map, tag, no_spellings, a_spelling, no_entries, entry, spell, spellings_count, entries_count, value_of, values_of, entries_of, form, Complaint, OfKind, ComplainsInBy, ComplainsInEntriesBy, OfKinds}
use Rattle.cbor_head.specs.Value as value
use Rattle.cbor_head.specs.declared.major.Major.TheVariants.{Array, Map, Tag}
use Rattle.theory_values.proofs.{KeyKinds.form_count, Reasons.none_by_form}

-- an integer or a text has no keys
basic_has_none : (s : Spelling) → IsIntegerOrText (value_of s) → (at : ℕ) (c : Complaint) → OfKinds at s c → ⊥
basic_has_none (array w ss) h at c x = h
basic_has_none (a_map w es) h at c x = h
basic_has_none (tag w n s) h at c x = h
basic_has_none s h at c x = none_by_form at s c x

mutual
  pub none_of_kinds : (s : Spelling) → HasBasicKeys (value_of s) → (at : ℕ) (c : Complaint) → OfKinds at s c → ⊥
  none_of_kinds (array w ss) h at c (inl x) = form_count at Array w (spellings_count ss) c x
  none_of_kinds (array w ss) h at c (inr x) = none_in ss h (at + length (head Array w (spellings_count ss))) c x
  none_of_kinds (a_map w es) h at c (inl x) = form_count at Map w (entries_count es) c x
  none_of_kinds (a_map w es) h at c (inr x) = none_in_entries es [] h (at + length (head Map w (entries_count es))) c x
  none_of_kinds (tag w n s) h at c (inl x) = cc x.0
  none_of_kinds (tag w n s) h at c (inr x) = none_of_kinds s h (at + length (head Tag w n)) c x
  none_of_kinds s h at c x = none_by_form at s c x

  none_in : (ss : Spellings) → HaveBasicKeys (values_of ss) → (at : ℕ) (c : Complaint) → ComplainsInBy form OfKind at ss c → ⊥
  none_in no_spellings h at c x = x
  none_in (a_spelling s ss) h at c (inl x) = none_of_kinds s h.0 at c x
  none_in (a_spelling s ss) h at c (inr x) = none_in ss h.1 (at + length (spell s)) c x

  none_in_entries : (es : SpelledEntries) (before : List Spelling) → EntriesHaveBasicKeys (entries_of es) → (at : ℕ) (c : Complaint) → ComplainsInEntriesBy form OfKind at before es c → ⊥
  none_in_entries no_entries before h at c x = x
  none_in_entries (entry k v es) before h at c (inl x) = basic_has_none k h.0 at c x
  none_in_entries (entry k v es) before h at c (inr (inl x)) = x.0 h.0
  none_in_entries (entry k v es) before h at c (inr (inr (inl x))) = none_of_kinds v h.1 (at + length (spell k)) c x
  none_in_entries (entry k v es) before h at c (inr (inr (inr x))) = none_in_entries es (k ∷ before) h.2 (at + length (spell k) + length (spell v)) c x

-- whether a value is one is decidable
reported : (v : Value) → (¬ IsIntegerOrText v → ⊥) → IsIntegerOrText v
reported (value.unsigned n) h = tt
reported (value.negative n) h = tt
reported (value.text s) h = tt
reported _ h = absurd (h (λ x. x))

mutual
  pub has_basic_keys : (s : Spelling) (at : ℕ) → ((c : Complaint) → OfKinds at s c → ⊥) → HasBasicKeys (value_of s)
  has_basic_keys (array w ss) at f = have_basic_keys ss (at + length (head Array w (spellings_count ss))) (λ c x. f c (inr x))
  has_basic_keys (a_map w es) at f = entries_have_basic_keys es [] (at + length (head Map w (entries_count es))) (λ c x. f c (inr x))
  has_basic_keys (tag w n s) at f = has_basic_keys s (at + length (head Tag w n)) (λ c x. f c (inr x))
  has_basic_keys _ at f = tt

  have_basic_keys : (ss : Spellings) (at : ℕ) → ((c : Complaint) → ComplainsInBy form OfKind at ss c → ⊥) → HaveBasicKeys (values_of ss)
  have_basic_keys no_spellings at f = tt
  have_basic_keys (a_spelling s ss) at f = (has_basic_keys s at (λ c x. f c (inl x)), have_basic_keys ss (at + length (spell s)) (λ c x. f c (inr x)))

  entries_have_basic_keys : (es : SpelledEntries) (before : List Spelling) (at : ℕ) → ((c : Complaint) → ComplainsInEntriesBy form OfKind at before es c → ⊥) → EntriesHaveBasicKeys (entries_of es)
  entries_have_basic_keys no_entries before at f = tt
  entries_have_basic_keys (entry k v es) before at f = (
    reported (value_of k) (λ n. f _ (inr (inl (n, refl)))),
    has_basic_keys v (at + length (spell k)) (λ c x. f c (inr (inr (inl x)))),
    entries_have_basic_keys es (k ∷ before) (at + length (spell k) + length (spell v)) (λ c x. f c (inr (inr (inr x)))),
  )

pub basic_keys : (s : Spelling) (at : ℕ) → ((c : Complaint) → OfKinds at s c → ⊥) ↔ HasBasicKeys (value_of s)
basic_keys s at = (has_basic_keys s at, λ h. none_of_kinds s h at)

-- ---- values that are the same

key_same : (k l : Value) → Same l k → IsIntegerOrText l → IsIntegerOrText k
key_same (value.unsigned n) l h b = tt
key_same (value.negative n) l h b = tt
key_same (value.text s) l h b = tt
key_same _ (value.unsigned n) h b = absurd h
key_same _ (value.negative n) h b = absurd h
key_same _ (value.text s) h b = absurd h
key_same _ _ h b = absurd b

-- a pair that is the same as this one
record Found (k v : Value) : Type 0 where
  pub key : Value
  pub content : Value
  pub same_key : Same key k
  pub same_content : Same content v
  pub basic : IsIntegerOrText key
  pub has : HasBasicKeys content

found : (es : Entries) (k v : Value) → Covers es k v → EntriesHaveBasicKeys es → Found k v
found value.no_entries k v h b = absurd h
found (value.entry l w es) k v (inl h) b = record { key = l; content = w; same_key = h.0; same_content = h.1; basic = b.0; has = b.1 }
found (value.entry l w es) k v (inr h) b = found es k v h b.2

mutual
  pub basic_same : (w v : Value) → Same v w → HasBasicKeys v → HasBasicKeys w
  basic_same (value.array ws) (value.array vs) h b = all_same ws vs h b
  basic_same (value.array ws) v h b = absurd h
  basic_same (value.map fs) (value.map es) h b = entries_same fs es h.1 b
  basic_same (value.map fs) v h b = absurd h
  basic_same (value.tag n w) (value.tag m v) h b = basic_same w v h.1 b
  basic_same (value.tag n w) v h b = absurd h
  basic_same _ v h b = tt

  all_same : (ws vs : Values) → SameValues vs ws → HaveBasicKeys vs → HaveBasicKeys ws
  all_same value.no_values vs h b = tt
  all_same (value.a_value w ws) (value.a_value v vs) h b = (basic_same w v h.0 b.0, all_same ws vs h.1 b.1)
  all_same (value.a_value w ws) value.no_values h b = absurd h

  entries_same : (fs es : Entries) → ((k v : Value) → HasEntry fs k v → Covers es k v) → EntriesHaveBasicKeys es → EntriesHaveBasicKeys fs
  entries_same value.no_entries es h b = tt
  entries_same (value.entry k v fs) es h b =
      let f = found es k v (h k v (inl (refl, refl))) b in
      (key_same k f.key f.same_key f.basic, basic_same v f.content f.same_content f.has, entries_same fs es (λ l m e. h l m (inr e)) b)
