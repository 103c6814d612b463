-- A complaint has a reason that its rules have.
use Rattle.std.proofs.Common.{ℕ, ◌+◌, ◌≡◌, ◌≤◌, List, [], ◌∷◌, length, refl, sym, ap, subst, inl, inr, arith, IsTrue}
use Rattle.std.specs.Str.Lossy.{utf8_valid_len}
use Rattle.cbor_head.specs.Prelude.{head, Chunk, Spelling, Spellings, SpelledEntries, unsigned, negative, bytes, text, byte_chunks, text_chunks, array, a_map, tag, simple, no_spellings, a_spelling, no_entries, entry, spell, chunk_bytes, spellings_count, entries_count, KeyRule, unasked, distinct, rising, Rules, form, Complaint, complaint, OfHead, OfIndefinite, OfCount, OfPayload, OfString, OfChunks, OfKey, ComplainsBy, ComplainsInBy, ComplainsInEntriesBy, Complains, rank}
use Rattle.cbor_head.specs.declared.order.KeyOrder as order
use Rattle.cbor_head.specs.declared.reason.Reason.TheVariants.{InvalidText, RepeatedKey, NotShortest, Indefinite as IndefiniteReason, KeyOrder}
use Rattle.cbor_head.specs.declared.major.Major.TheVariants.{Unsigned, Negative, Bytes, Text, Array, Map, Tag}
use Rattle.cbor_head.specs.declared.{major.Major.Major, width.Width.Width, width.Width.TheVariants.Indefinite}

-- what holds of each complaint, at any offset, where K has those of each key
module _ (r : Rules) (K : ℕ → List Spelling → Spelling → Complaint → Type 0) (Q : Complaint → Type 0) (of_texts : IsTrue r.texts → (at : ℕ) (q : List ℕ) → Q (complaint (at + length q) (at + utf8_valid_len q) InvalidText))
    (of_heads : IsTrue r.heads → (at n : ℕ) → Q (complaint (at + n) at NotShortest)) (of_lengths : IsTrue r.heads → (at : ℕ) → Q (complaint (at + 1) at IndefiniteReason))
    (of_keys : (at : ℕ) (ks : List Spelling) (k : Spelling) (c : Complaint) → K at ks k c → Q c) where
  as_reported : (c e : Complaint) → c ≡ e → Q e → Q c
  as_reported c e h g = subst Q (sym h) g

  of_head : (at : ℕ) (m : Major) (w : Width) (n : ℕ) (c : Complaint) → OfHead r at m w n c → Q c
  of_head at m w n c h = as_reported c _ h.2 (of_heads h.0 at _)

  of_opener : (at : ℕ) (c : Complaint) → OfIndefinite r at c → Q c
  of_opener at c h = as_reported c _ h.1 (of_lengths h.0 at)

  of_count : (at : ℕ) (m : Major) (w : Width) (n : ℕ) (c : Complaint) → OfCount r at m w n c → Q c
  of_count at m Indefinite n c h = of_opener at c h
  of_count at m w n c h = of_head at m w n c h

  pub of_string : (at : ℕ) (m : Major) (w : Width) (q : List ℕ) (c : Complaint) → OfString r at m w q c → Q c
  of_string at Text w q c (inl h) = of_head at Text w (length q) c h
  of_string at Text w q c (inr h) = as_reported c _ h.2 (of_texts h.0 _ q)
  of_string at m w q c h = of_head at m w (length q) c h

  of_chunks : (at : ℕ) (m : Major) (ks : List Chunk) (c : Complaint) → OfChunks r at m ks c → Q c
  of_chunks at m [] c h = absurd h
  of_chunks at m (k ∷ ks) c (inl h) = of_string at m k.width k.payload c h
  of_chunks at m (k ∷ ks) c (inr h) = of_chunks (at + length (chunk_bytes m k)) m ks c h

  mutual
    pub each_by : (at : ℕ) (s : Spelling) (c : Complaint) → ComplainsBy r K at s c → Q c
    each_by at (unsigned w n) c h = of_head at Unsigned w n c h
    each_by at (negative w n) c h = of_head at Negative w n c h
    each_by at (bytes w q) c h = of_string at Bytes w q c h
    each_by at (text w q) c h = of_string at Text w q c h
    each_by at (byte_chunks cs) c (inl h) = of_opener at c h
    each_by at (byte_chunks cs) c (inr h) = of_chunks (at + 1) Bytes cs c h
    each_by at (text_chunks cs) c (inl h) = of_opener at c h
    each_by at (text_chunks cs) c (inr h) = of_chunks (at + 1) Text cs c h
    each_by at (array w ss) c (inl h) = of_count at Array w (spellings_count ss) c h
    each_by at (array w ss) c (inr h) = each_in (at + length (head Array w (spellings_count ss))) ss c h
    each_by at (a_map w es) c (inl h) = of_count at Map w (entries_count es) c h
    each_by at (a_map w es) c (inr h) = each_in_entries (at + length (head Map w (entries_count es))) [] es c h
    each_by at (tag w n s) c (inl h) = of_head at Tag w n c h
    each_by at (tag w n s) c (inr h) = each_by (at + length (head Tag w n)) s c h
    each_by at (simple n) c h = absurd h

    each_in : (at : ℕ) (ss : Spellings) (c : Complaint) → ComplainsInBy r K at ss c → Q c
    each_in at no_spellings c h = absurd h
    each_in at (a_spelling s ss) c (inl h) = each_by at s c h
    each_in at (a_spelling s ss) c (inr h) = each_in (at + length (spell s)) ss c h

    each_in_entries : (at : ℕ) (ks : List Spelling) (es : SpelledEntries) (c : Complaint) → ComplainsInEntriesBy r K at ks es c → Q c
    each_in_entries at ks no_entries c h = absurd h
    each_in_entries at ks (entry k v es) c (inl h) = each_by at k c h
    each_in_entries at ks (entry k v es) c (inr (inl h)) = of_keys at ks k c h
    each_in_entries at ks (entry k v es) c (inr (inr (inl h))) = each_by (at + length (spell k)) v c h
    each_in_entries at ks (entry k v es) c (inr (inr (inr h))) = each_in_entries (at + length (spell k) + length (spell v)) (k ∷ ks) es c h

of_key : (keys : KeyRule) (Q : Complaint → Type 0) → (keys ≡ distinct → (at n : ℕ) → Q (complaint (at + n) at RepeatedKey)) → ((o : order.KeyOrder) → keys ≡ rising o → (at n : ℕ) → Q (complaint (at + n) at KeyOrder))
    → (at : ℕ) (ks : List Spelling) (k : Spelling) (c : Complaint) → OfKey keys at ks k c → Q c
of_key unasked Q same order at ks k c h = absurd h
of_key distinct Q same order at ks k c h = subst Q (sym h.1) (same refl at _)
of_key (rising o) Q same order at [] k c h = absurd h
of_key (rising o) Q same order at (b ∷ bs) k c h = subst Q (sym h.1) (order o refl at _)

-- of each complaint of the rules
pub each_complaint : (r : Rules) (Q : Complaint → Type 0) → (IsTrue r.texts → (at : ℕ) (q : List ℕ) → Q (complaint (at + length q) (at + utf8_valid_len q) InvalidText))
    → (IsTrue r.heads → (at n : ℕ) → Q (complaint (at + n) at NotShortest)) → (IsTrue r.heads → (at : ℕ) → Q (complaint (at + 1) at IndefiniteReason)) → (r.keys ≡ distinct → (at n : ℕ) → Q (complaint (at + n) at RepeatedKey))
    → ((o : order.KeyOrder) → r.keys ≡ rising o → (at n : ℕ) → Q (complaint (at + n) at KeyOrder)) → (at : ℕ) (s : Spelling) (c : Complaint) → Complains r at s c → Q c
each_complaint r Q texts heads lengths same order at s c h = each_by r (OfKey r.keys) Q texts heads lengths (of_key r.keys Q same order) at s c h

-- by form alone, nothing but keys is asked
pub none_by_form : (at : ℕ) (s : Spelling) (c : Complaint) → ComplainsBy form (λ at ks k c. ⊥) at s c → ⊥
none_by_form at s c h = each_by form (λ at ks k c. ⊥) (λ x. ⊥) (λ t at q. cc t) (λ t at n. cc t) (λ t at. cc t) (λ at ks k c x. x) at s c h

-- no complaint of these comes before one on a key's kind at one end
pub ranked : (r : Rules) (at : ℕ) (s : Spelling) (c : Complaint) → Complains r at s c → 1 ≤ rank c.reason
ranked r at s c h = each_complaint r (λ x. 1 ≤ rank x.reason) (λ t at q. omega arith) (λ t at n. omega arith) (λ t at. omega arith) (λ t at n. omega arith) (λ o t at n. omega arith) at s c h

pub payload_rank : (r : Rules) (at : ℕ) (q : List ℕ) (c : Complaint) → OfPayload r at q c → rank c.reason ≡ 1
payload_rank r at q c h = ap (λ (x : Complaint). rank x.reason) h.2
