-- The value of an item of fewer than 2^64 bytes is in range, and of one without plain complaint valid.
use Rattle.std.proofs.Common.{sym, ℕ, ◌+◌, ◌^◌, ◌<◌, ◌≤◌, List, [], ◌∷◌, ◌++◌, length, flat_map, refl, arith, subst, inl, inr, IsUtf8, length-append}
use Rattle.std.{specs.List.AllByRecursion, proofs.lemmas.Str.IsUtf8-append, proofs.lemmas.Str.IsUtf8-nil}
use Rattle.cbor_head.specs.Prelude.{head, Value, AreBytes, HasEntry, HasDistinctKeys, Same, IsInRange, AreInRange, AreEntriesInRange, IsValid, AreValid, AreEntriesValid, Chunk, IsChunk, Spelling, Spellings, SpelledEntries, unsigned, negative, bytes, text, byte_chunks, text_chunks, array, a_map, tag, simple, no_spellings, a_spelling, no_entries, entry, spell, spell_all, spell_entries, spellings_count, entries_count, value_of, values_of, entries_of, chunks_joined, chunk_bytes, chunked, break_of, IsSpelled, AreSpelled, AreEntriesSpelled, plain, Complains, OfChunks, IsRepeated}
use Rattle.cbor_head.specs.declared.major.Major.TheVariants.{Bytes, Text, Array, Map, Tag}
use Rattle.cbor_head.specs.declared.{major.Major.Major, width.Width.TheVariants.Indefinite}
use Rattle.theory_values.proofs.Counts.{holds_fits, values_count-of, entries_count-of}
use Rattle.theory_values.{specs.MemberComplaints.ComplainsIn, specs.MemberComplaints.ComplainsInEntries, proofs.ReadLaws.length_spell}
use Rattle.theory_values.proofs.{ByteLists.bytes_join, Stable.utf8_stable}
use Rattle.theory_verdicts.{specs.Judged.Never, proofs.Levels.Among}

-- ---- counts

-- each member has a byte
pub count_bounded : (ss : Spellings) → spellings_count ss ≤ length (spell_all ss)
count_bounded no_spellings = omega arith
count_bounded (a_spelling s ss) = omega (arith, count_bounded ss, length_spell s, length-append (spell s) (spell_all ss))

pub entries_bounded : (es : SpelledEntries) → entries_count es ≤ length (spell_entries es)
entries_bounded no_entries = omega arith
entries_bounded (entry k v es) = omega (arith, entries_bounded es, length_spell k, length-append (spell k ++ spell v) (spell_entries es), length-append (spell k) (spell v))

pub joined_bounded : (m : Major) (cs : List Chunk) → length (chunks_joined cs) ≤ length (flat_map (chunk_bytes m) cs)
joined_bounded m [] = omega arith
joined_bounded m (k ∷ ks) =
    omega (arith, joined_bounded m ks, length-append (chunk_bytes m k) (flat_map (chunk_bytes m) ks), length-append (head m k.width (length k.payload)) k.payload, length-append k.payload (chunks_joined ks))

joined_are_bytes : (cs : List Chunk) → AllByRecursion IsChunk cs → AreBytes (chunks_joined cs)
joined_are_bytes [] h = tt
joined_are_bytes (k ∷ ks) h = bytes_join k.payload (chunks_joined ks) h.0.1 (joined_are_bytes ks h.1)

-- the content of a chunked string is no longer than its bytes
chunks_fit : (m : Major) (cs : List Chunk) → length (chunked m cs) < 2 ^ 64 → length (chunks_joined cs) < 2 ^ 64
chunks_fit m cs l =
    omega (arith, l, length-append (head m Indefinite 0 ++ flat_map (chunk_bytes m) cs) (0xff ∷ []), length-append (head m Indefinite 0) (flat_map (chunk_bytes m) cs), joined_bounded m cs)

joined_text : (cs : List Chunk) (at : ℕ) → Never (OfChunks plain at Text cs) → IsUtf8 (chunks_joined cs)
joined_text [] at f = IsUtf8-nil
joined_text (k ∷ ks) at f =
    IsUtf8-append k.payload (chunks_joined ks) (utf8_stable k.payload (λ n. f _ (inl (inr (refl, n, refl))))) (joined_text ks (at + length (chunk_bytes Text k)) (λ c x. f c (inr x)))

-- ---- keys

is_repeated : (b k : Spelling) (ks : List Spelling) → Among b ks → Same (value_of b) (value_of k) → IsRepeated ks k
is_repeated b k [] m s = absurd m
is_repeated b k (x ∷ xs) (inl e) s = inl (subst (λ (x : Spelling). Same (value_of x) (value_of k)) (sym e) s)
is_repeated b k (x ∷ xs) (inr m) s = inr (is_repeated b k xs m s)

-- no key of es is the same as one before
none_same : (es : SpelledEntries) (before : List Spelling) (at : ℕ) → Never (ComplainsInEntries plain at before es) → (b : Spelling) → Among b before
    → (k v : Value) → HasEntry (entries_of es) k v → Same (value_of b) k → ⊥
none_same no_entries before at f b m k v h s = h
none_same (entry x y es) before at f b m k v (inl h) s =
    f _ (inr (inl (is_repeated b x before m (subst (λ (u : Value). Same (value_of b) u) h.0 s), refl)))
none_same (entry x y es) before at f b m k v (inr h) s =
    none_same es (x ∷ before) (at + length (spell x) + length (spell y)) (λ c z. f c (inr (inr (inr z)))) b (inr m) k v h s

-- ---- the inductions

mutual
  pub in_range_of : (s : Spelling) → IsSpelled s → length (spell s) < 2 ^ 64 → IsInRange (value_of s)
  in_range_of (unsigned w n) h l = holds_fits w n h
  in_range_of (negative w n) h l = holds_fits w n h
  in_range_of (bytes w q) h l = (holds_fits w (length q) h.0, h.1)
  in_range_of (text w q) h l = (holds_fits w (length q) h.0, h.1)
  in_range_of (byte_chunks cs) h l = (chunks_fit Bytes cs l, joined_are_bytes cs h)
  in_range_of (text_chunks cs) h l = (chunks_fit Text cs l, joined_are_bytes cs h)
  in_range_of (array w ss) h l =
      let size = length-append (head Array w (spellings_count ss) ++ spell_all ss) (break_of w) in
      let flat = length-append (head Array w (spellings_count ss)) (spell_all ss) in
      (omega (arith, l, size, flat, count_bounded ss, values_count-of ss), in_range_all ss h.1 (omega (arith, l, size, flat)))
  in_range_of (a_map w es) h l =
      let size = length-append (head Map w (entries_count es) ++ spell_entries es) (break_of w) in
      let flat = length-append (head Map w (entries_count es)) (spell_entries es) in
      (omega (arith, l, size, flat, entries_bounded es, entries_count-of es), in_range_entries es h.1 (omega (arith, l, size, flat)))
  in_range_of (tag w n s) h l = (holds_fits w n h.0, in_range_of s h.1 (omega (arith, l, length-append (head Tag w n) (spell s))))
  in_range_of (simple n) h l = h

  in_range_all : (ss : Spellings) → AreSpelled ss → length (spell_all ss) < 2 ^ 64 → AreInRange (values_of ss)
  in_range_all no_spellings h l = tt
  in_range_all (a_spelling s ss) h l =
      let size = length-append (spell s) (spell_all ss) in
      (in_range_of s h.0 (omega (arith, l, size)), in_range_all ss h.1 (omega (arith, l, size)))

  pub in_range_entries : (es : SpelledEntries) → AreEntriesSpelled es → length (spell_entries es) < 2 ^ 64 → AreEntriesInRange (entries_of es)
  in_range_entries no_entries h l = tt
  in_range_entries (entry k v es) h l =
      let size = length-append (spell k ++ spell v) (spell_entries es) in
      let two = length-append (spell k) (spell v) in
      (in_range_of k h.0 (omega (arith, l, size, two)), in_range_of v h.1 (omega (arith, l, size, two)), in_range_entries es h.2 (omega (arith, l, size, two)))

mutual
  pub valid_of : (s : Spelling) (at : ℕ) → Never (Complains plain at s) → IsValid (value_of s)
  valid_of (text w q) at f = utf8_stable q (λ n. f _ (inr (refl, n, refl)))
  valid_of (text_chunks cs) at f = joined_text cs (at + 1) (λ c x. f c (inr x))
  valid_of (array w ss) at f = valid_all ss _ (λ c x. f c (inr x))
  valid_of (a_map w es) at f = valid_entries es [] _ (λ c x. f c (inr x))
  valid_of (tag w n s) at f = valid_of s _ (λ c x. f c (inr x))
  valid_of _ at f = tt

  valid_all : (ss : Spellings) (at : ℕ) → Never (ComplainsIn plain at ss) → AreValid (values_of ss)
  valid_all no_spellings at f = tt
  valid_all (a_spelling s ss) at f = (valid_of s at (λ c x. f c (inl x)), valid_all ss (at + length (spell s)) (λ c x. f c (inr x)))

  valid_entries : (es : SpelledEntries) (before : List Spelling) (at : ℕ) → Never (ComplainsInEntries plain at before es) → AreEntriesValid (entries_of es) × HasDistinctKeys (entries_of es)
  valid_entries no_entries before at f = (tt, tt)
  valid_entries (entry k v es) before at f =
      let rest : Never (ComplainsInEntries plain (at + length (spell k) + length (spell v)) (k ∷ before) es) = λ c x. f c (inr (inr (inr x))) in
      let all = valid_entries es (k ∷ before) (at + length (spell k) + length (spell v)) rest in (
        (valid_of k at (λ c x. f c (inl x)), valid_of v (at + length (spell k)) (λ c x. f c (inr (inr (inl x)))), all.0),
        ((λ x y m s. none_same es (k ∷ before) (at + length (spell k) + length (spell v)) rest k (inl refl) x y m s), all.1),
      )
