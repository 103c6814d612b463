-- What has no complaint on a text has valid texts, and a valid value in valid texts has no plain complaint.
use Rattle.std.proofs.Common.{ℕ, ◌↔◌, List, [], ◌∷◌, refl, inl, inr, IsUtf8, IsTrue}
use Rattle.std.specs.List.{AllByRecursion}
use Rattle.cbor_head.specs.Value as value
use Rattle.cbor_head.specs.Prelude.{Value, Entries, HasEntry, HasDistinctKeys, Same, IsValid, AreValid, AreEntriesValid, Chunk, Spelling, Spellings, SpelledEntries, unsigned, negative, bytes, text, byte_chunks, text_chunks, array, a_map, tag, simple, no_spellings, a_spelling, no_entries, entry, spellings_count, entries_count, value_of, values_of, entries_of, Rules, plain, IsRepeated, OfPayload, OfChunks, Complains}
use Rattle.cbor_head.specs.declared.major.Major.TheVariants.{Bytes, Text, Array, Map}
use Rattle.theory_values.{specs.MemberComplaints.ComplainsIn, specs.MemberComplaints.ComplainsInEntries, proofs.Stable.utf8_stable}
use Rattle.theory_verdicts.{specs.Judged.Never, proofs.Levels.no-count, proofs.Valid.valid_of}
use Rattle.cbor_reader.specs.Headline.{HasValidTexts, HaveValidTexts, EntriesHaveValidTexts}

-- ---- no complaint about a text, by rules that require UTF-8

module _ (r : Rules) (asks : IsTrue r.texts) where
  judged : (at : ℕ) (q : List ℕ) → Never (OfPayload r at q) → IsUtf8 q
  judged at q f = utf8_stable q (λ n. f _ (asks, n, refl))

  chunks_valid : (cs : List Chunk) (at : ℕ) → Never (OfChunks r at Text cs) → AllByRecursion (λ (c : Chunk). IsUtf8 c.payload) cs
  chunks_valid [] at f = tt
  chunks_valid (k ∷ ks) at f = (judged _ k.payload (λ c x. f c (inl (inr x))), chunks_valid ks _ (λ c x. f c (inr x)))

  mutual
    texts_valid : (s : Spelling) (at : ℕ) → Never (Complains r at s) → HasValidTexts s
    texts_valid (text w q) at f = judged _ q (λ c x. f c (inr x))
    texts_valid (text_chunks cs) at f = chunks_valid cs _ (λ c x. f c (inr x))
    texts_valid (array w ss) at f = texts_all ss _ (λ c x. f c (inr x))
    texts_valid (a_map w es) at f = texts_entries es [] _ (λ c x. f c (inr x))
    texts_valid (tag w n s) at f = texts_valid s _ (λ c x. f c (inr x))
    texts_valid _ at f = tt

    texts_all : (ss : Spellings) (at : ℕ) → Never (ComplainsIn r at ss) → HaveValidTexts ss
    texts_all no_spellings at f = tt
    texts_all (a_spelling s ss) at f = (texts_valid s at (λ c x. f c (inl x)), texts_all ss _ (λ c x. f c (inr x)))

    texts_entries : (es : SpelledEntries) (before : List Spelling) (at : ℕ) → Never (ComplainsInEntries r at before es) → EntriesHaveValidTexts es
    texts_entries no_entries before at f = tt
    texts_entries (entry k v es) before at f =
        (texts_valid k at (λ c x. f c (inl x)), texts_valid v _ (λ c x. f c (inr (inr (inl x)))), texts_entries es (k ∷ before) _ (λ c x. f c (inr (inr (inr x)))))

-- ---- keys

-- none of these is the same as a key of the map
abbrev AreApart : List Spelling → Entries → Type 0
AreApart [] es = Unit {0}
AreApart (b ∷ bs) es = ((k v : Value) → HasEntry es k v → Same (value_of b) k → ⊥) × AreApart bs es

apart_from_rest : (bs : List Spelling) (k v : Value) (es : Entries) → AreApart bs (value.entry k v es) → AreApart bs es
apart_from_rest [] k v es a = tt
apart_from_rest (b ∷ bs) k v es a = ((λ l w m s. a.0 l w (inr m) s), apart_from_rest bs k v es a.1)

none_repeated : (bs : List Spelling) (k : Spelling) (v : Value) (es : Entries) → AreApart bs (value.entry (value_of k) v es) → IsRepeated bs k → ⊥
none_repeated [] k v es a r = r
none_repeated (b ∷ bs) k v es a (inl s) = a.0 (value_of k) v (inl (refl, refl)) s
none_repeated (b ∷ bs) k v es a (inr r) = none_repeated bs k v es a.1 r

-- ---- no plain complaint

no_chunk : (cs : List Chunk) (at : ℕ) → AllByRecursion (λ (c : Chunk). IsUtf8 c.payload) cs → Never (OfChunks plain at Text cs)
no_chunk [] at u c x = x
no_chunk (k ∷ ks) at u c (inl (inl x)) = cc x.0
no_chunk (k ∷ ks) at u c (inl (inr x)) = x.1 u.0
no_chunk (k ∷ ks) at u c (inr x) = no_chunk ks _ u.1 c x

no_byte_chunk : (cs : List Chunk) (at : ℕ) → Never (OfChunks plain at Bytes cs)
no_byte_chunk [] at c x = x
no_byte_chunk (k ∷ ks) at c (inl x) = cc x.0
no_byte_chunk (k ∷ ks) at c (inr x) = no_byte_chunk ks _ c x

mutual
  none_plain : (s : Spelling) (at : ℕ) → HasValidTexts s → IsValid (value_of s) → Never (Complains plain at s)
  none_plain (text w q) at u v c (inl x) = cc x.0
  none_plain (text w q) at u v c (inr x) = x.1 u
  none_plain (byte_chunks cs) at u v c (inl x) = cc x.0
  none_plain (byte_chunks cs) at u v c (inr x) = no_byte_chunk cs _ c x
  none_plain (text_chunks cs) at u v c (inl x) = cc x.0
  none_plain (text_chunks cs) at u v c (inr x) = no_chunk cs _ u c x
  none_plain (array w ss) at u v c (inl x) = no-count at Array w (spellings_count ss) c x
  none_plain (array w ss) at u v c (inr x) = none_in ss _ u v c x
  none_plain (a_map w es) at u v c (inl x) = no-count at Map w (entries_count es) c x
  none_plain (a_map w es) at u v c (inr x) = none_in_entries es [] _ u v.0 v.1 tt c x
  none_plain (tag w n s) at u v c (inl x) = cc x.0
  none_plain (tag w n s) at u v c (inr x) = none_plain s _ u v c x
  none_plain (unsigned w n) at u v c x = cc x.0
  none_plain (negative w n) at u v c x = cc x.0
  none_plain (bytes w q) at u v c x = cc x.0
  none_plain (simple n) at u v c x = x

  none_in : (ss : Spellings) (at : ℕ) → HaveValidTexts ss → AreValid (values_of ss) → Never (ComplainsIn plain at ss)
  none_in no_spellings at u v c x = x
  none_in (a_spelling s ss) at u v c (inl x) = none_plain s at u.0 v.0 c x
  none_in (a_spelling s ss) at u v c (inr x) = none_in ss _ u.1 v.1 c x

  none_in_entries : (es : SpelledEntries) (before : List Spelling) (at : ℕ) → EntriesHaveValidTexts es
      → AreEntriesValid (entries_of es) → HasDistinctKeys (entries_of es) → AreApart before (entries_of es) → Never (ComplainsInEntries plain at before es)
  none_in_entries no_entries before at u v d a c x = x
  none_in_entries (entry k w es) before at u v d a c (inl x) = none_plain k at u.0 v.0 c x
  none_in_entries (entry k w es) before at u v d a c (inr (inl x)) = none_repeated before k (value_of w) (entries_of es) a x.0
  none_in_entries (entry k w es) before at u v d a c (inr (inr (inl x))) = none_plain w _ u.1 v.1 c x
  none_in_entries (entry k w es) before at u v d a c (inr (inr (inr x))) =
      none_in_entries es (k ∷ before) _ u.2 v.2 d.1 (d.0, apart_from_rest before (value_of k) (value_of w) (entries_of es) a) c x

-- without plain complaint, exactly: valid texts, of a valid value
pub plain_exactly : (s : Spelling) (at : ℕ) → Never (Complains plain at s) ↔ (HasValidTexts s × IsValid (value_of s))
plain_exactly s at = (
  (λ f. (texts_valid plain refl s at f, valid_of s at f)),
  (λ h. none_plain s at h.0 h.1),
)
