-- A complaint ends after the head of what it is about.
use Rattle.std.proofs.Common.{ℕ, ◌+◌, ◌≡◌, ◌<◌, ◌≤◌, List, [], ◌∷◌, length, ap, arith, inl, inr}
use Rattle.cbor_head.specs.Prelude.{head, Chunk, Spelling, Spellings, SpelledEntries, unsigned, negative, bytes, text, byte_chunks, text_chunks, array, a_map, tag, simple, no_spellings, a_spelling, no_entries, entry, spell, spellings_count, entries_count, chunk_bytes, KeyRule, unasked, distinct, rising, Rules, Complaint, OfHead, OfIndefinite, OfCount, OfPayload, OfString, OfChunks, OfKey, ComplainsBy, ComplainsInBy, ComplainsInEntriesBy, Complains}
use Rattle.cbor_head.specs.declared.major.Major.TheVariants.{Unsigned, Negative, Bytes, Text, Array, Map, Tag}
use Rattle.cbor_head.specs.declared.{major.Major.Major, width.Width.Width, width.Width.TheVariants.Indefinite}
use Rattle.theory_values.proofs.Parts.{major, width, count, head_of}
use Rattle.theory_values.specs.MemberComplaints.{ComplainsIn, ComplainsInEntries}
use Rattle.theory_values.proofs.ReadLaws.{length_head, length_spell}

pub head_end : (r : Rules) (at : ℕ) (m : Major) (w : Width) (n : ℕ) (c : Complaint) → OfHead r at m w n c → c.end ≡ at + length (head m w n)
head_end r at m w n c h = ap (λ (c : Complaint). c.end) h.2

pub head_later : (r : Rules) (at : ℕ) (m : Major) (w : Width) (n : ℕ) (c : Complaint) → OfHead r at m w n c → at + length (head m w n) ≤ c.end
head_later r at m w n c h = let e = head_end r at m w n c h in omega arith

opener_later : (r : Rules) (at : ℕ) (c : Complaint) → OfIndefinite r at c → at + 1 ≤ c.end
opener_later r at c h = let e : c.end ≡ at + 1 = ap (λ (c : Complaint). c.end) h.1 in omega arith

pub count_later : (r : Rules) (at : ℕ) (m : Major) (w : Width) (n : ℕ) (c : Complaint) → OfCount r at m w n c → at + length (head m w n) ≤ c.end
count_later r at m Indefinite n c h = opener_later r at c h
count_later r at m w n c h = head_later r at m w n c h

pub payload_end : (r : Rules) (at : ℕ) (q : List ℕ) (c : Complaint) → OfPayload r at q c → c.end ≡ at + length q
payload_end r at q c h = ap (λ (c : Complaint). c.end) h.2

pub string_later : (r : Rules) (at : ℕ) (m : Major) (w : Width) (q : List ℕ) (c : Complaint) → OfString r at m w q c → at + length (head m w (length q)) ≤ c.end
string_later r at Text w q c (inl h) = head_later r at Text w (length q) c h
string_later r at Text w q c (inr h) = let e = payload_end r (at + length (head Text w (length q))) q c h in omega arith
string_later r at m w q c h = head_later r at m w (length q) c h

pub chunks_later : (r : Rules) (at : ℕ) (m : Major) (ks : List Chunk) (c : Complaint) → OfChunks r at m ks c → at < c.end
chunks_later r at m [] c h = absurd h
chunks_later r at m (k ∷ ks) c (inl h) = omega (arith, string_later r at m k.width k.payload c h, length_head m k.width (length k.payload))
chunks_later r at m (k ∷ ks) c (inr h) = omega (arith, chunks_later r (at + length (chunk_bytes m k)) m ks c h)

pub key_end : (r : KeyRule) (at : ℕ) (before : List Spelling) (k : Spelling) (c : Complaint) → OfKey r at before k c → c.end ≡ at + length (spell k)
key_end unasked at before k c h = absurd h
key_end distinct at before k c h = ap (λ (c : Complaint). c.end) h.1
key_end (rising o) at [] k c h = absurd h
key_end (rising o) at (b ∷ bs) k c h = ap (λ (c : Complaint). c.end) h.1

-- a complaint about an item ends after its first head, where one on a key ends after the key begins
module _ (K : ℕ → List Spelling → Spelling → Complaint → Type 0) (key : (at : ℕ) (before : List Spelling) (k : Spelling) (c : Complaint) → K at before k c → at < c.end) where
  mutual
    pub later_by : (s : Spelling) (r : Rules) (at : ℕ) (c : Complaint) → ComplainsBy r K at s c → at + length (head_of s) ≤ c.end
    later_by (unsigned w n) r at c h = head_later r at Unsigned w n c h
    later_by (negative w n) r at c h = head_later r at Negative w n c h
    later_by (bytes w p) r at c h = string_later r at Bytes w p c h
    later_by (text w p) r at c h = string_later r at Text w p c h
    later_by (byte_chunks cs) r at c (inl h) = opener_later r at c h
    later_by (byte_chunks cs) r at c (inr h) = omega (arith, chunks_later r (at + 1) Bytes cs c h)
    later_by (text_chunks cs) r at c (inl h) = opener_later r at c h
    later_by (text_chunks cs) r at c (inr h) = omega (arith, chunks_later r (at + 1) Text cs c h)
    later_by (array w ss) r at c (inl h) = count_later r at Array w (spellings_count ss) c h
    later_by (array w ss) r at c (inr h) = omega (arith, later_in_by ss r (at + length (head Array w (spellings_count ss))) c h)
    later_by (a_map w es) r at c (inl h) = count_later r at Map w (entries_count es) c h
    later_by (a_map w es) r at c (inr h) = omega (arith, later_entries_by es [] r (at + length (head Map w (entries_count es))) c h)
    later_by (tag w n s) r at c (inl h) = head_later r at Tag w n c h
    later_by (tag w n s) r at c (inr h) = omega (arith, later_by s r (at + length (head Tag w n)) c h)
    later_by (simple n) r at c h = absurd h

    pub later_in_by : (ss : Spellings) (r : Rules) (at : ℕ) (c : Complaint) → ComplainsInBy r K at ss c → at < c.end
    later_in_by no_spellings r at c h = absurd h
    later_in_by (a_spelling s ss) r at c (inl h) = omega (arith, later_by s r at c h, length_head (major s) (width s) (count s))
    later_in_by (a_spelling s ss) r at c (inr h) = omega (arith, later_in_by ss r (at + length (spell s)) c h)

    pub later_entries_by : (es : SpelledEntries) (before : List Spelling) (r : Rules) (at : ℕ) (c : Complaint) → ComplainsInEntriesBy r K at before es c → at < c.end
    later_entries_by no_entries before r at c h = absurd h
    later_entries_by (entry k v es) before r at c (inl h) = omega (arith, later_by k r at c h, length_head (major k) (width k) (count k))
    later_entries_by (entry k v es) before r at c (inr (inl h)) = key at before k c h
    later_entries_by (entry k v es) before r at c (inr (inr (inl h))) = omega (arith, later_by v r (at + length (spell k)) c h, length_head (major v) (width v) (count v))
    later_entries_by (entry k v es) before r at c (inr (inr (inr h))) = omega (arith, later_entries_by es (k ∷ before) r (at + length (spell k) + length (spell v)) c h)

pub key_later : (r : KeyRule) (at : ℕ) (before : List Spelling) (k : Spelling) (c : Complaint) → OfKey r at before k c → at < c.end
key_later r at before k c h = omega (arith, key_end r at before k c h, length_spell k)

pub later : (s : Spelling) (r : Rules) (at : ℕ) (c : Complaint) → Complains r at s c → at + length (head_of s) ≤ c.end
later s r = later_by (OfKey r.keys) (key_later r.keys) s r

pub later_in : (ss : Spellings) (r : Rules) (at : ℕ) (c : Complaint) → ComplainsIn r at ss c → at < c.end
later_in ss r = later_in_by (OfKey r.keys) (key_later r.keys) ss r

pub later_entries : (es : SpelledEntries) (before : List Spelling) (r : Rules) (at : ℕ) (c : Complaint) → ComplainsInEntries r at before es c → at < c.end
later_entries es before r = later_entries_by (OfKey r.keys) (key_later r.keys) es before r
