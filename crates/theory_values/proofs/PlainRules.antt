-- The strict rules compared with the plain ones: if no strict complaint has ended, no plain one has, and each strict complaint
-- on a text is a plain one.
use Rattle.std.proofs.Common.{◌≡◌, ℕ, ◌+◌, ◌≤◌, List, [], ◌∷◌, length, inl, inr, refl, sym, ap, ◌∙◌, subst, arith, IsTrue, true≢false}
use Rattle.std.proofs.lemmas.Bool.{true_from_ne_false}
use Rattle.cbor_head.specs.Prelude.{key_lt, Chunk, Spelling, Spellings, SpelledEntries, unsigned, negative, bytes, text, byte_chunks, text_chunks, array, a_map, tag, simple, no_spellings, a_spelling, no_entries, entry, spell, spellings_count, entries_count, value_of, IsSpelled, AreSpelled, AreEntriesSpelled, plain, strict, Complaint, Complains, OfHead, OfIndefinite, OfCount, OfChunks, OfKey, distinct, rising, IsRepeated}
use Rattle.cbor_head.specs.declared.major.Major.TheVariants.{Unsigned, Negative, Bytes, Text, Array, Map, Tag}
use Rattle.cbor_head.specs.declared.reason.Reason.TheVariants.{InvalidText, NotShortest, Indefinite as IndefiniteReason, KeyOrder as KeyOrderReason}
use Rattle.cbor_head.specs.declared.{order.KeyOrder.KeyOrder, major.Major.Major, width.Width.Width, width.Width.TheVariants.Indefinite}
use Rattle.theory_values.proofs.Ends.{chunks_later, key_end, later_entries}
use Rattle.theory_values.{specs.MemberComplaints.ComplainsIn, specs.MemberComplaints.ComplainsInEntries, proofs.OneFirst.bounded, proofs.Keys.same_exactly}
use Rattle.theory_values.proofs.{Orders.lt_irrefl, Orders.lt_trans, Strict.IsStrict, Strict.strict_spelling}

-- ---- the plain rules require nothing of heads

pub no_count : (at : ℕ) (m : Major) (w : Width) (n : ℕ) (c : Complaint) → OfCount plain at m w n c → ⊥
no_count at m Indefinite n c h = cc h.0
no_count at m _ n c h = cc h.0

-- ---- keys that rise

module _ (o : KeyOrder) where
  -- these keys are canonical, and this one comes after each
  abbrev pub AreBelow : List Spelling → Spelling → Type 0
  AreBelow [] k = Unit {0}
  AreBelow (b ∷ bs) k = IsStrict o b × IsTrue (key_lt o (spell b) (spell k)) × AreBelow bs k

  -- and the nearest one comes after the others
  abbrev pub AreRising : List Spelling → Type 0
  AreRising [] = Unit {0}
  AreRising (b ∷ bs) = IsStrict o b × AreBelow bs b

  below_next : (bs : List Spelling) (b k : Spelling) → AreBelow bs b → IsTrue (key_lt o (spell b) (spell k)) → AreBelow bs k
  below_next [] b k h up = tt
  below_next (x ∷ bs) b k h up = (h.0, lt_trans o (spell x) (spell b) (spell k) h.1 up, below_next bs b k h.2 up)

  pub below_key : (bs : List Spelling) (k : Spelling) (at : ℕ) → AreRising bs → ((c : Complaint) → OfKey (rising o) at bs k c → c.end ≤ at + length (spell k) → ⊥) → AreBelow bs k
  below_key [] k at h f = tt
  below_key (b ∷ bs) k at h f =
      let up : IsTrue (key_lt o (spell b) (spell k)) = true_from_ne_false _ (λ e. f _ ((λ t. true≢false (sym t ∙ e)), refl) (omega arith)) in
      (h.0, up, below_next bs b k h.1 up)

  pub no_repeat : (bs : List Spelling) (k : Spelling) → IsStrict o k → AreBelow bs k → IsRepeated bs k → ⊥
  no_repeat [] k s h r = absurd r
  no_repeat (b ∷ bs) k s h (inl same) =
      let bytes_are = h.0.bytes_are ∙ (same_exactly o (value_of b) (value_of k) h.0.sound s.sound).0 same ∙ sym s.bytes_are in
      lt_irrefl o (spell k) (subst (λ (x : List ℕ). IsTrue (key_lt o x (spell k))) bytes_are h.1)
  no_repeat (b ∷ bs) k s h (inr r) = no_repeat bs k s h.2 r

  -- ---- so far

  module _ (t : ℕ) where
    -- a key that ends by then is canonical, and comes after those before it
    pub next_key : (k v : Spelling) (es : SpelledEntries) (bs : List Spelling) (at : ℕ) → AreEntriesSpelled (entry k v es) → AreRising bs → ((c : Complaint) → ComplainsInEntries (strict o) at bs (entry k v es) c → c.end ≤ t → ⊥) → at + length (spell k) ≤ t
        → IsStrict o k × AreBelow bs k
    next_key k v es bs at i rise f l = (
      strict_spelling o k at i.0 (λ e x. f e (inl x) (omega (arith, l, bounded k (strict o) at e x))),
      below_key bs k at rise (λ e x m. f e (inr (inl x)) (omega (arith, l, m))),
    )

    mutual
      pub none_plainly : (s : Spelling) (at : ℕ) → IsSpelled s → ((c : Complaint) → Complains (strict o) at s c → c.end ≤ t → ⊥) → (c : Complaint) → Complains plain at s c → c.end ≤ t → ⊥
      none_plainly (unsigned w n) at i f c h l = cc h.0
      none_plainly (negative w n) at i f c h l = cc h.0
      none_plainly (bytes w q) at i f c h l = cc h.0
      none_plainly (text w q) at i f c (inl h) l = cc h.0
      none_plainly (text w q) at i f c (inr h) l = f c (inr h) l
      none_plainly (byte_chunks cs) at i f c (inl h) l = cc h.0
      none_plainly (byte_chunks cs) at i f c (inr h) l = f _ (inl (refl, refl)) (omega (arith, l, chunks_later plain (at + 1) Bytes cs c h))
      none_plainly (text_chunks cs) at i f c (inl h) l = cc h.0
      none_plainly (text_chunks cs) at i f c (inr h) l = f _ (inl (refl, refl)) (omega (arith, l, chunks_later plain (at + 1) Text cs c h))
      none_plainly (array w ss) at i f c (inl h) l = no_count at Array w (spellings_count ss) c h
      none_plainly (array w ss) at i f c (inr h) l = none_plainly_in ss _ i.1 (λ e x m. f e (inr x) m) c h l
      none_plainly (a_map w es) at i f c (inl h) l = no_count at Map w (entries_count es) c h
      none_plainly (a_map w es) at i f c (inr h) l = none_plainly_in_entries es [] _ i.1 tt (λ e x m. f e (inr x) m) c h l
      none_plainly (tag w n s) at i f c (inl h) l = cc h.0
      none_plainly (tag w n s) at i f c (inr h) l = none_plainly s _ i.1 (λ e x m. f e (inr x) m) c h l
      none_plainly (simple n) at i f c h l = h

      pub none_plainly_in : (ss : Spellings) (at : ℕ) → AreSpelled ss → ((c : Complaint) → ComplainsIn (strict o) at ss c → c.end ≤ t → ⊥) → (c : Complaint) → ComplainsIn plain at ss c → c.end ≤ t → ⊥
      none_plainly_in no_spellings at i f c h l = h
      none_plainly_in (a_spelling s ss) at i f c (inl h) l = none_plainly s at i.0 (λ e x m. f e (inl x) m) c h l
      none_plainly_in (a_spelling s ss) at i f c (inr h) l = none_plainly_in ss _ i.1 (λ e x m. f e (inr x) m) c h l

      -- after these keys
      pub none_plainly_in_entries : (es : SpelledEntries) (bs : List Spelling) (at : ℕ) → AreEntriesSpelled es → AreRising bs → ((c : Complaint) → ComplainsInEntries (strict o) at bs es c → c.end ≤ t → ⊥) → (c : Complaint) → ComplainsInEntries plain at bs es c → c.end ≤ t → ⊥
      none_plainly_in_entries no_entries bs at i rise f c h l = h
      none_plainly_in_entries (entry k v es) bs at i rise f c (inl h) l = none_plainly k at i.0 (λ e x m. f e (inl x) m) c h l
      none_plainly_in_entries (entry k v es) bs at i rise f c (inr (inl h)) l =
          let n = next_key k v es bs at i rise f (omega (arith, l, key_end distinct at bs k c h)) in
          no_repeat bs k n.0 n.1 h.0
      none_plainly_in_entries (entry k v es) bs at i rise f c (inr (inr (inl h))) l = none_plainly v _ i.1 (λ e x m. f e (inr (inr (inl x))) m) c h l
      none_plainly_in_entries (entry k v es) bs at i rise f c (inr (inr (inr h))) l =
          let late = later_entries es (k ∷ bs) plain (at + length (spell k) + length (spell v)) c h in
          let n = next_key k v es bs at i rise f (omega (arith, l, late)) in
          none_plainly_in_entries es (k ∷ bs) _ i.2 n (λ e x m. f e (inr (inr (inr x))) m) c h l

-- ---- on texts

module _ (o : KeyOrder) (c : Complaint) (is : c.reason ≡ InvalidText) where
  no_text_head : (at : ℕ) (m : Major) (w : Width) (n : ℕ) → OfHead (strict o) at m w n c → ⊥
  no_text_head at m w n h = let e : NotShortest ≡ InvalidText = sym (ap (λ (e : Complaint). e.reason) h.2) ∙ is in cc e

  no_text_opener : (at : ℕ) → OfIndefinite (strict o) at c → ⊥
  no_text_opener at h = let e : IndefiniteReason ≡ InvalidText = sym (ap (λ (e : Complaint). e.reason) h.1) ∙ is in cc e

  no_text_count : (at : ℕ) (m : Major) (w : Width) (n : ℕ) → OfCount (strict o) at m w n c → ⊥
  no_text_count at m Indefinite n h = no_text_opener at h
  no_text_count at m w n h = no_text_head at m w n h

  no_text_key : (at : ℕ) (bs : List Spelling) (k : Spelling) → OfKey (rising o) at bs k c → ⊥
  no_text_key at [] k h = h
  no_text_key at (b ∷ bs) k h = let e : KeyOrderReason ≡ InvalidText = sym (ap (λ (e : Complaint). e.reason) h.1) ∙ is in cc e

  text_chunks_plainly : (ks : List Chunk) (at : ℕ) → OfChunks (strict o) at Text ks c → OfChunks plain at Text ks c
  text_chunks_plainly [] at h = h
  text_chunks_plainly (k ∷ ks) at (inl (inl h)) = absurd (no_text_head at Text k.width (length k.payload) h)
  text_chunks_plainly (k ∷ ks) at (inl (inr h)) = inl (inr h)
  text_chunks_plainly (k ∷ ks) at (inr h) = inr (text_chunks_plainly ks _ h)

  no_byte_chunk : (ks : List Chunk) (at : ℕ) → OfChunks (strict o) at Bytes ks c → ⊥
  no_byte_chunk [] at h = h
  no_byte_chunk (k ∷ ks) at (inl h) = no_text_head at Bytes k.width (length k.payload) h
  no_byte_chunk (k ∷ ks) at (inr h) = no_byte_chunk ks _ h

  mutual
    pub plainly : (s : Spelling) (at : ℕ) → Complains (strict o) at s c → Complains plain at s c
    plainly (unsigned w n) at h = absurd (no_text_head at Unsigned w n h)
    plainly (negative w n) at h = absurd (no_text_head at Negative w n h)
    plainly (bytes w q) at h = absurd (no_text_head at Bytes w (length q) h)
    plainly (text w q) at (inl h) = absurd (no_text_head at Text w (length q) h)
    plainly (text w q) at (inr h) = inr h
    plainly (byte_chunks ks) at (inl h) = absurd (no_text_opener at h)
    plainly (byte_chunks ks) at (inr h) = absurd (no_byte_chunk ks _ h)
    plainly (text_chunks ks) at (inl h) = absurd (no_text_opener at h)
    plainly (text_chunks ks) at (inr h) = inr (text_chunks_plainly ks _ h)
    plainly (array w ss) at (inl h) = absurd (no_text_count at Array w (spellings_count ss) h)
    plainly (array w ss) at (inr h) = inr (plainly_in ss _ h)
    plainly (a_map w es) at (inl h) = absurd (no_text_count at Map w (entries_count es) h)
    plainly (a_map w es) at (inr h) = inr (plainly_in_entries es [] _ h)
    plainly (tag w n s) at (inl h) = absurd (no_text_head at Tag w n h)
    plainly (tag w n s) at (inr h) = inr (plainly s _ h)
    plainly (simple n) at h = h

    plainly_in : (ss : Spellings) (at : ℕ) → ComplainsIn (strict o) at ss c → ComplainsIn plain at ss c
    plainly_in no_spellings at h = h
    plainly_in (a_spelling s ss) at (inl h) = inl (plainly s at h)
    plainly_in (a_spelling s ss) at (inr h) = inr (plainly_in ss _ h)

    plainly_in_entries : (es : SpelledEntries) (bs : List Spelling) (at : ℕ) → ComplainsInEntries (strict o) at bs es c → ComplainsInEntries plain at bs es c
    plainly_in_entries no_entries bs at h = h
    plainly_in_entries (entry k v es) bs at (inl h) = inl (plainly k at h)
    plainly_in_entries (entry k v es) bs at (inr (inl h)) = absurd (no_text_key at bs k h)
    plainly_in_entries (entry k v es) bs at (inr (inr (inl h))) = inr (inr (inl (plainly v _ h)))
    plainly_in_entries (entry k v es) bs at (inr (inr (inr h))) = inr (inr (inr (plainly_in_entries es (k ∷ bs) _ h)))
