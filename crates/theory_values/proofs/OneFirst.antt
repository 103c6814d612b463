-- Where complaints end, by rank: no two of an item at one offset with one rank.
use Rattle.std.proofs.Common.{ℕ, ◌+◌, ◌-◌, ◌≡◌, ◌<◌, ◌≤◌, List, [], ◌∷◌, ◌++◌, length, sym, ap, ◌∙◌, arith, flat_map, inl, inr, length-append}
use Rattle.std.proofs.lemmas.Str.{IsUtf8-nil}
use Rattle.cbor_head.specs.Prelude.{head, Chunk, Spelling, Spellings, SpelledEntries, unsigned, negative, bytes, text, byte_chunks, text_chunks, array, a_map, tag, simple, no_spellings, a_spelling, no_entries, entry, spell, spell_all, spell_entries, spellings_count, entries_count, chunk_bytes, break_of, KeyRule, unasked, distinct, rising, Rules, Complaint, OfHead, OfIndefinite, OfCount, OfPayload, OfString, OfChunks, OfKey, Complains, rank}
use Rattle.cbor_head.specs.declared.major.Major.TheVariants.{Unsigned, Negative, Bytes, Text, Array, Map, Tag}
use Rattle.cbor_head.specs.declared.{major.Major.Major, width.Width.Width, width.Width.TheVariants.Indefinite}
use Rattle.theory_values.proofs.Ends.{head_end, payload_end, chunks_later, key_end, later, later_in, later_entries}
use Rattle.theory_values.proofs.Parts.{major, width, count}
use Rattle.theory_values.specs.MemberComplaints.{ComplainsIn, ComplainsInEntries}
use Rattle.theory_values.proofs.ReadLaws.{length_head, length_spell}

-- where a complaint ends; for those on a key, which come last, one further
abbrev pub last : Complaint → ℕ
last c = c.end + (rank c.reason - 1)

head_last : (r : Rules) (at : ℕ) (m : Major) (w : Width) (n : ℕ) (c : Complaint) → OfHead r at m w n c → last c ≡ at + length (head m w n)
head_last r at m w n c h = ap last h.2 ∙ omega arith

opener_last : (r : Rules) (at : ℕ) (c : Complaint) → OfIndefinite r at c → last c ≡ at + 1
opener_last r at c h = ap last h.1 ∙ omega arith

pub count_last : (r : Rules) (at : ℕ) (m : Major) (w : Width) (n : ℕ) (c : Complaint) → OfCount r at m w n c → last c ≡ at + length (head m w n)
count_last r at m Indefinite n c h = opener_last r at c h
count_last r at m w n c h = head_last r at m w n c h

pub payload_last : (r : Rules) (at : ℕ) (q : List ℕ) (c : Complaint) → OfPayload r at q c → last c ≡ at + length q
payload_last r at q c h = ap last h.2 ∙ omega arith

pub string_last : (r : Rules) (at : ℕ) (m : Major) (w : Width) (q : List ℕ) (c : Complaint) → OfString r at m w q c → last c ≤ at + length (head m w (length q) ++ q)
string_last r at Text w q c (inl h) = omega (arith, head_last r at Text w (length q) c h, length-append (head Text w (length q)) q)
string_last r at Text w q c (inr h) = omega (arith, payload_last r (at + length (head Text w (length q))) q c h, length-append (head Text w (length q)) q)
string_last r at m w q c h = omega (arith, head_last r at m w (length q) c h, length-append (head m w (length q)) q)

chunks_last : (r : Rules) (at : ℕ) (m : Major) (ks : List Chunk) (c : Complaint) → OfChunks r at m ks c → last c ≤ at + length (flat_map (chunk_bytes m) ks)
chunks_last r at m [] c h = absurd h
chunks_last r at m (k ∷ ks) c (inl h) = omega (arith, string_last r at m k.width k.payload c h, length-append (chunk_bytes m k) (flat_map (chunk_bytes m) ks))
chunks_last r at m (k ∷ ks) c (inr h) = omega (arith, chunks_last r (at + length (chunk_bytes m k)) m ks c h, length-append (chunk_bytes m k) (flat_map (chunk_bytes m) ks))

pub key_last : (r : KeyRule) (at : ℕ) (before : List Spelling) (k : Spelling) (c : Complaint) → OfKey r at before k c → last c ≡ at + length (spell k) + 1
key_last unasked at before k c h = absurd h
key_last distinct at before k c h = ap last h.1
key_last (rising o) at [] k c h = absurd h
key_last (rising o) at (b ∷ bs) k c h = ap last h.1

-- the length of three lists joined
length-three : (a b c : List ℕ) → length (a ++ b ++ c) ≡ length a + length b + length c
length-three a b c = omega (arith, length-append (a ++ b) c, length-append a b)

-- it ends within the item, and a complaint on a key before its end
mutual
  pub bounded : (s : Spelling) (r : Rules) (at : ℕ) (c : Complaint) → Complains r at s c → last c ≤ at + length (spell s)
  bounded (unsigned w n) r at c h = omega (arith, head_last r at Unsigned w n c h)
  bounded (negative w n) r at c h = omega (arith, head_last r at Negative w n c h)
  bounded (bytes w p) r at c h = string_last r at Bytes w p c h
  bounded (text w p) r at c h = string_last r at Text w p c h
  bounded (byte_chunks cs) r at c (inl h) = omega (arith, opener_last r at c h, length-three (head Bytes Indefinite 0) (flat_map (chunk_bytes Bytes) cs) (0xff ∷ []))
  bounded (byte_chunks cs) r at c (inr h) = omega (arith, chunks_last r (at + 1) Bytes cs c h, length-three (head Bytes Indefinite 0) (flat_map (chunk_bytes Bytes) cs) (0xff ∷ []))
  bounded (text_chunks cs) r at c (inl h) = omega (arith, opener_last r at c h, length-three (head Text Indefinite 0) (flat_map (chunk_bytes Text) cs) (0xff ∷ []))
  bounded (text_chunks cs) r at c (inr h) = omega (arith, chunks_last r (at + 1) Text cs c h, length-three (head Text Indefinite 0) (flat_map (chunk_bytes Text) cs) (0xff ∷ []))
  bounded (array w ss) r at c (inl h) = omega (arith, count_last r at Array w (spellings_count ss) c h, length-three (head Array w (spellings_count ss)) (spell_all ss) (break_of w))
  bounded (array w ss) r at c (inr h) = omega (arith, bounded_in ss r (at + length (head Array w (spellings_count ss))) c h, length-three (head Array w (spellings_count ss)) (spell_all ss) (break_of w))
  bounded (a_map w es) r at c (inl h) = omega (arith, count_last r at Map w (entries_count es) c h, length-three (head Map w (entries_count es)) (spell_entries es) (break_of w))
  bounded (a_map w es) r at c (inr h) = omega (arith, bounded_entries es [] r (at + length (head Map w (entries_count es))) c h, length-three (head Map w (entries_count es)) (spell_entries es) (break_of w))
  bounded (tag w n s) r at c (inl h) = omega (arith, head_last r at Tag w n c h, length-append (head Tag w n) (spell s))
  bounded (tag w n s) r at c (inr h) = omega (arith, bounded s r (at + length (head Tag w n)) c h, length-append (head Tag w n) (spell s))
  bounded (simple n) r at c h = absurd h

  pub bounded_in : (ss : Spellings) (r : Rules) (at : ℕ) (c : Complaint) → ComplainsIn r at ss c → last c ≤ at + length (spell_all ss)
  bounded_in no_spellings r at c h = absurd h
  bounded_in (a_spelling s ss) r at c (inl h) = omega (arith, bounded s r at c h, length-append (spell s) (spell_all ss))
  bounded_in (a_spelling s ss) r at c (inr h) = omega (arith, bounded_in ss r (at + length (spell s)) c h, length-append (spell s) (spell_all ss))

  pub bounded_entries : (es : SpelledEntries) (before : List Spelling) (r : Rules) (at : ℕ) (c : Complaint) → ComplainsInEntries r at before es c → last c ≤ at + length (spell_entries es)
  bounded_entries no_entries before r at c h = absurd h
  bounded_entries (entry k v es) before r at c (inl h) = omega (arith, bounded k r at c h, length-three (spell k) (spell v) (spell_entries es))
  bounded_entries (entry k v es) before r at c (inr (inl h)) = omega (arith, key_last r.keys at before k c h, length_spell v, length-three (spell k) (spell v) (spell_entries es))
  bounded_entries (entry k v es) before r at c (inr (inr (inl h))) = omega (arith, bounded v r (at + length (spell k)) c h, length-three (spell k) (spell v) (spell_entries es))
  bounded_entries (entry k v es) before r at c (inr (inr (inr h))) = omega (arith, bounded_entries es (k ∷ before) r (at + length (spell k) + length (spell v)) c h, length-three (spell k) (spell v) (spell_entries es))

-- two complaints of a head are one
same_head : (r : Rules) (at : ℕ) (m : Major) (w : Width) (n : ℕ) (c e : Complaint) → OfHead r at m w n c → OfHead r at m w n e → c ≡ e
same_head r at m w n c e h i = h.2 ∙ sym i.2

same_opener : (r : Rules) (at : ℕ) (c e : Complaint) → OfIndefinite r at c → OfIndefinite r at e → c ≡ e
same_opener r at c e h i = h.1 ∙ sym i.1

same_count : (r : Rules) (at : ℕ) (m : Major) (w : Width) (n : ℕ) (c e : Complaint) → OfCount r at m w n c → OfCount r at m w n e → c ≡ e
same_count r at m Indefinite n c e h i = same_opener r at c e h i
same_count r at m w n c e h i = same_head r at m w n c e h i

-- no bytes are a text
payload_some : (r : Rules) (at : ℕ) (q : List ℕ) (c : Complaint) → OfPayload r at q c → 0 < length q
payload_some r at [] c h = absurd (h.1 IsUtf8-nil)
payload_some r at (x ∷ q) c h = omega arith

same_string : (r : Rules) (at : ℕ) (m : Major) (w : Width) (q : List ℕ) (c e : Complaint) → c.end ≡ e.end → OfString r at m w q c → OfString r at m w q e → c ≡ e
same_string r at Text w q c e f (inl h) (inl i) = same_head r at Text w (length q) c e h i
same_string r at Text w q c e f (inl h) (inr i) = absurd (omega (arith, head_end r at Text w (length q) c h, payload_end r (at + length (head Text w (length q))) q e i, payload_some r (at + length (head Text w (length q))) q e i))
same_string r at Text w q c e f (inr h) (inl i) = absurd (omega (arith, head_end r at Text w (length q) e i, payload_end r (at + length (head Text w (length q))) q c h, payload_some r (at + length (head Text w (length q))) q c h))
same_string r at Text w q c e f (inr h) (inr i) = h.2 ∙ sym i.2
same_string r at m w q c e f h i = same_head r at m w (length q) c e h i

same_chunks : (r : Rules) (at : ℕ) (m : Major) (ks : List Chunk) (c e : Complaint) → c.end ≡ e.end → OfChunks r at m ks c → OfChunks r at m ks e → c ≡ e
same_chunks r at m [] c e f h i = absurd h
same_chunks r at m (k ∷ ks) c e f (inl h) (inl i) = same_string r at m k.width k.payload c e f h i
same_chunks r at m (k ∷ ks) c e f (inl h) (inr i) = absurd (omega (arith, string_last r at m k.width k.payload c h, chunks_later r (at + length (chunk_bytes m k)) m ks e i))
same_chunks r at m (k ∷ ks) c e f (inr h) (inl i) = absurd (omega (arith, string_last r at m k.width k.payload e i, chunks_later r (at + length (chunk_bytes m k)) m ks c h))
same_chunks r at m (k ∷ ks) c e f (inr h) (inr i) = same_chunks r (at + length (chunk_bytes m k)) m ks c e f h i

same_key : (r : KeyRule) (at : ℕ) (before : List Spelling) (k : Spelling) (c e : Complaint) → OfKey r at before k c → OfKey r at before k e → c ≡ e
same_key unasked at before k c e h i = absurd h
same_key distinct at before k c e h i = h.1 ∙ sym i.1
same_key (rising o) at [] k c e h i = absurd h
same_key (rising o) at (b ∷ bs) k c e h i = h.1 ∙ sym i.1

pub after_head : (s : Spelling) (r : Rules) (at : ℕ) (c : Complaint) → Complains r at s c → at < c.end
after_head s r at c h = omega (arith, later s r at c h, length_head (major s) (width s) (count s))

mutual
  -- no two end at one offset with one rank
  pub apart : (s : Spelling) (r : Rules) (at : ℕ) (c e : Complaint) → c.end ≡ e.end → rank c.reason ≡ rank e.reason → Complains r at s c → Complains r at s e → c ≡ e
  apart (unsigned w n) r at c e f g h i = same_head r at Unsigned w n c e h i
  apart (negative w n) r at c e f g h i = same_head r at Negative w n c e h i
  apart (bytes w p) r at c e f g h i = same_string r at Bytes w p c e f h i
  apart (text w p) r at c e f g h i = same_string r at Text w p c e f h i
  apart (byte_chunks cs) r at c e f g (inl h) (inl i) = same_opener r at c e h i
  apart (byte_chunks cs) r at c e f g (inl h) (inr i) = absurd (omega (arith, opener_last r at c h, chunks_later r (at + 1) Bytes cs e i))
  apart (byte_chunks cs) r at c e f g (inr h) (inl i) = absurd (omega (arith, opener_last r at e i, chunks_later r (at + 1) Bytes cs c h))
  apart (byte_chunks cs) r at c e f g (inr h) (inr i) = same_chunks r (at + 1) Bytes cs c e f h i
  apart (text_chunks cs) r at c e f g (inl h) (inl i) = same_opener r at c e h i
  apart (text_chunks cs) r at c e f g (inl h) (inr i) = absurd (omega (arith, opener_last r at c h, chunks_later r (at + 1) Text cs e i))
  apart (text_chunks cs) r at c e f g (inr h) (inl i) = absurd (omega (arith, opener_last r at e i, chunks_later r (at + 1) Text cs c h))
  apart (text_chunks cs) r at c e f g (inr h) (inr i) = same_chunks r (at + 1) Text cs c e f h i
  apart (array w ss) r at c e f g (inl h) (inl i) = same_count r at Array w (spellings_count ss) c e h i
  apart (array w ss) r at c e f g (inl h) (inr i) = absurd (omega (arith, count_last r at Array w (spellings_count ss) c h, later_in ss r (at + length (head Array w (spellings_count ss))) e i))
  apart (array w ss) r at c e f g (inr h) (inl i) = absurd (omega (arith, count_last r at Array w (spellings_count ss) e i, later_in ss r (at + length (head Array w (spellings_count ss))) c h))
  apart (array w ss) r at c e f g (inr h) (inr i) = apart_in ss r (at + length (head Array w (spellings_count ss))) c e f g h i
  apart (a_map w ss) r at c e f g (inl h) (inl i) = same_count r at Map w (entries_count ss) c e h i
  apart (a_map w ss) r at c e f g (inl h) (inr i) = absurd (omega (arith, count_last r at Map w (entries_count ss) c h, later_entries ss [] r (at + length (head Map w (entries_count ss))) e i))
  apart (a_map w ss) r at c e f g (inr h) (inl i) = absurd (omega (arith, count_last r at Map w (entries_count ss) e i, later_entries ss [] r (at + length (head Map w (entries_count ss))) c h))
  apart (a_map w ss) r at c e f g (inr h) (inr i) = apart_entries ss [] r (at + length (head Map w (entries_count ss))) c e f g h i
  apart (tag w n s) r at c e f g (inl h) (inl i) = same_head r at Tag w n c e h i
  apart (tag w n s) r at c e f g (inl h) (inr i) = absurd (omega (arith, head_end r at Tag w n c h, after_head s r (at + length (head Tag w n)) e i))
  apart (tag w n s) r at c e f g (inr h) (inl i) = absurd (omega (arith, head_end r at Tag w n e i, after_head s r (at + length (head Tag w n)) c h))
  apart (tag w n s) r at c e f g (inr h) (inr i) = apart s r (at + length (head Tag w n)) c e f g h i
  apart (simple n) r at c e f g h i = absurd h

  pub apart_in : (ss : Spellings) (r : Rules) (at : ℕ) (c e : Complaint) → c.end ≡ e.end → rank c.reason ≡ rank e.reason → ComplainsIn r at ss c → ComplainsIn r at ss e → c ≡ e
  apart_in no_spellings r at c e f g h i = absurd h
  apart_in (a_spelling s ss) r at c e f g (inl h) (inl i) = apart s r at c e f g h i
  apart_in (a_spelling s ss) r at c e f g (inl h) (inr i) = absurd (omega (arith, bounded s r at c h, later_in ss r (at + length (spell s)) e i))
  apart_in (a_spelling s ss) r at c e f g (inr h) (inl i) = absurd (omega (arith, bounded s r at e i, later_in ss r (at + length (spell s)) c h))
  apart_in (a_spelling s ss) r at c e f g (inr h) (inr i) = apart_in ss r (at + length (spell s)) c e f g h i

  pub apart_entries : (es : SpelledEntries) (before : List Spelling) (r : Rules) (at : ℕ) (c e : Complaint) → c.end ≡ e.end → rank c.reason ≡ rank e.reason → ComplainsInEntries r at before es c → ComplainsInEntries r at before es e → c ≡ e
  apart_entries no_entries before r at c e f g h i = absurd h
  apart_entries (entry k v es) before r at c e f g (inl h) (inl i) = apart k r at c e f g h i
  apart_entries (entry k v es) before r at c e f g (inl h) (inr (inl i)) = absurd (omega (arith, bounded k r at c h, key_last r.keys at before k e i, key_end r.keys at before k e i))
  apart_entries (entry k v es) before r at c e f g (inl h) (inr (inr (inl i))) = absurd (omega (arith, bounded k r at c h, after_head v r (at + length (spell k)) e i))
  apart_entries (entry k v es) before r at c e f g (inl h) (inr (inr (inr i))) = absurd (omega (arith, bounded k r at c h, later_entries es (k ∷ before) r (at + length (spell k) + length (spell v)) e i))
  apart_entries (entry k v es) before r at c e f g (inr (inl h)) (inl i) = absurd (omega (arith, bounded k r at e i, key_last r.keys at before k c h, key_end r.keys at before k c h))
  apart_entries (entry k v es) before r at c e f g (inr (inl h)) (inr (inl i)) = same_key r.keys at before k c e h i
  apart_entries (entry k v es) before r at c e f g (inr (inl h)) (inr (inr (inl i))) = absurd (omega (arith, key_last r.keys at before k c h, key_end r.keys at before k c h, after_head v r (at + length (spell k)) e i))
  apart_entries (entry k v es) before r at c e f g (inr (inl h)) (inr (inr (inr i))) = absurd (omega (arith, key_last r.keys at before k c h, key_end r.keys at before k c h, later_entries es (k ∷ before) r (at + length (spell k) + length (spell v)) e i))
  apart_entries (entry k v es) before r at c e f g (inr (inr (inl h))) (inl i) = absurd (omega (arith, bounded k r at e i, after_head v r (at + length (spell k)) c h))
  apart_entries (entry k v es) before r at c e f g (inr (inr (inl h))) (inr (inl i)) = absurd (omega (arith, key_last r.keys at before k e i, key_end r.keys at before k e i, after_head v r (at + length (spell k)) c h))
  apart_entries (entry k v es) before r at c e f g (inr (inr (inl h))) (inr (inr (inl i))) = apart v r (at + length (spell k)) c e f g h i
  apart_entries (entry k v es) before r at c e f g (inr (inr (inl h))) (inr (inr (inr i))) = absurd (omega (arith, bounded v r (at + length (spell k)) c h, later_entries es (k ∷ before) r (at + length (spell k) + length (spell v)) e i))
  apart_entries (entry k v es) before r at c e f g (inr (inr (inr h))) (inl i) = absurd (omega (arith, bounded k r at e i, later_entries es (k ∷ before) r (at + length (spell k) + length (spell v)) c h))
  apart_entries (entry k v es) before r at c e f g (inr (inr (inr h))) (inr (inl i)) = absurd (omega (arith, key_last r.keys at before k e i, key_end r.keys at before k e i, later_entries es (k ∷ before) r (at + length (spell k) + length (spell v)) c h))
  apart_entries (entry k v es) before r at c e f g (inr (inr (inr h))) (inr (inr (inl i))) = absurd (omega (arith, bounded v r (at + length (spell k)) e i, later_entries es (k ∷ before) r (at + length (spell k) + length (spell v)) c h))
  apart_entries (entry k v es) before r at c e f g (inr (inr (inr h))) (inr (inr (inr i))) = apart_entries es (k ∷ before) r (at + length (spell k) + length (spell v)) c e f g h i
