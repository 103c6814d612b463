-- What is wrong with a well-formed item (RFC 8949, sections 3.1, 4.2 and 5.3.1).
use Rattle.std.specs.Prelude.{ℕ, ◌+◌, ◌≡◌, ◌≢◌, ◌⊎◌, Bool, true, false, IsTrue, List, [], ◌∷◌, length, IsUtf8}
use Rattle.std.specs.Str.Lossy.{utf8_valid_len}
use Rattle.cbor_head.specs.Spelling.{Chunk, Spelling, Spellings, SpelledEntries, unsigned, negative, bytes, text, byte_chunks, text_chunks, array, a_map, tag, simple, no_spellings, a_spelling, no_entries, entry, spell, spellings_count, entries_count, value_of, chunk_bytes}
use Rattle.cbor_head.specs.declared.major.Major.TheVariants.{Unsigned, Negative, Bytes, Text, Array, Map, Tag}
use Rattle.cbor_head.specs.declared.reason.Reason.TheVariants.{InvalidText, RepeatedKey, NotShortest, Indefinite as IndefiniteReason, KeyOrder as KeyOrderReason, KeyKind}
use Rattle.cbor_head.specs.{Head.head, Head.shortest, Value.Same, Value.IsIntegerOrText, Limits.Bounds, Order.key_lt}
use Rattle.cbor_head.specs.declared.{keys.Keys.TheVariants.IntegersAndTexts, order.KeyOrder.KeyOrder, major.Major.Major, width.Width.Width}
use Rattle.cbor_head.specs.declared.{width.Width.TheVariants.Indefinite, reason.Reason.Reason}

-- what a rule requires of the keys of a map
pub data KeyRule : Type 0 where
  unasked : KeyRule
  -- that no two are the same
  distinct : KeyRule
  -- that each comes after the one before it
  rising : KeyOrder → KeyRule

-- which complaints count
pub record Rules : Type 0 where
  -- that texts are UTF-8
  pub texts : Bool
  -- that heads are the shortest, and lengths definite
  pub heads : Bool
  pub keys : KeyRule
  -- that keys are of the kinds that the limits name
  pub kinds : Bool

-- none
abbrev pub form : Rules
form = record { texts = false; heads = false; keys = unasked; kinds = false }

-- texts and keys
abbrev pub plain : Rules
plain = record { texts = true; heads = false; keys = distinct; kinds = true }

-- the deterministic encoding in an order
abbrev pub strict : KeyOrder → Rules
strict o = record { texts = true; heads = true; keys = rising o; kinds = true }

-- what is wrong with an item: where it ends, its offset and its reason
pub record Complaint : Type 0 where
  pub end : ℕ
  pub place : ℕ
  pub reason : Reason

-- a complaint, from its end, offset and reason
abbrev pub complaint : ℕ → ℕ → Reason → Complaint
complaint end place reason = record { end = end; place = place; reason = reason }

-- a definite head, at an offset, that is not the shortest (section 4.2.1)
abbrev pub OfHead : Rules → ℕ → Major → Width → ℕ → Complaint → Type 0
OfHead r at major w n c = IsTrue r.heads × (w ≢ shortest n) × (c ≡ complaint (at + length (head major w n)) at NotShortest)

-- an indefinite length (section 4.2.1)
abbrev pub OfIndefinite : Rules → ℕ → Complaint → Type 0
OfIndefinite r at c = IsTrue r.heads × (c ≡ complaint (at + 1) at IndefiniteReason)

-- the head of an array or map, definite or not
abbrev pub OfCount : Rules → ℕ → Major → Width → ℕ → Complaint → Type 0
OfCount r at major Indefinite n c = OfIndefinite r at c
OfCount r at major w n c = OfHead r at major w n c

-- a payload, at an offset, that is not UTF-8 (section 3.1); the complaint's offset is after the longest prefix that is UTF-8
abbrev pub OfPayload : Rules → ℕ → List ℕ → Complaint → Type 0
OfPayload r at payload c = IsTrue r.texts × ¬ IsUtf8 payload × (c ≡ complaint (at + length payload) (at + utf8_valid_len payload) InvalidText)

-- a definite string, or a chunk, at an offset
abbrev pub OfString : Rules → ℕ → Major → Width → List ℕ → Complaint → Type 0
OfString r at Text w payload c = OfHead r at Text w (length payload) c ⊎ OfPayload r (at + length (head Text w (length payload))) payload c
OfString r at major w payload c = OfHead r at major w (length payload) c

-- the chunks from an offset on
abbrev pub OfChunks : Rules → ℕ → Major → List Chunk → Complaint → Type 0
OfChunks r at major [] c = ⊥
OfChunks r at major (k ∷ ks) c = OfString r at major k.width k.payload c ⊎ OfChunks r (at + length (chunk_bytes major k)) major ks c

-- one of the keys before k is the same (section 5.6)
abbrev pub IsRepeated : List Spelling → Spelling → Type 0
IsRepeated [] k = ⊥
IsRepeated (b ∷ bs) k = Same (value_of b) (value_of k) ⊎ IsRepeated bs k

-- a key at an offset, after these keys of its map, the nearest first (sections 5.6 and 4.2.1)
abbrev pub OfKey : KeyRule → ℕ → List Spelling → Spelling → Complaint → Type 0
OfKey unasked at before k c = ⊥
OfKey distinct at before k c = IsRepeated before k × (c ≡ complaint (at + length (spell k)) at RepeatedKey)
OfKey (rising o) at [] k c = ⊥
OfKey (rising o) at (b ∷ bs) k c = ¬ IsTrue (key_lt o (spell b) (spell k)) × (c ≡ complaint (at + length (spell k)) at KeyOrderReason)

-- a key at an offset that is neither an integer nor a text: the complaint ends with its first byte
abbrev pub OfKind : ℕ → List Spelling → Spelling → Complaint → Type 0
OfKind at before k c = ¬ IsIntegerOrText (value_of k) × (c ≡ complaint (at + 1) at KeyKind)

-- s, at an offset, has this complaint, where K has those of each key
abbrev mutual
  pub ComplainsBy : Rules → (ℕ → List Spelling → Spelling → Complaint → Type 0) → ℕ → Spelling → Complaint → Type 0
  ComplainsBy r K at (unsigned w n) c = OfHead r at Unsigned w n c
  ComplainsBy r K at (negative w n) c = OfHead r at Negative w n c
  ComplainsBy r K at (bytes w payload) c = OfString r at Bytes w payload c
  ComplainsBy r K at (text w payload) c = OfString r at Text w payload c
  ComplainsBy r K at (byte_chunks cs) c = OfIndefinite r at c ⊎ OfChunks r (at + 1) Bytes cs c
  ComplainsBy r K at (text_chunks cs) c = OfIndefinite r at c ⊎ OfChunks r (at + 1) Text cs c
  ComplainsBy r K at (array w ss) c = OfCount r at Array w (spellings_count ss) c ⊎ ComplainsInBy r K (at + length (head Array w (spellings_count ss))) ss c
  ComplainsBy r K at (a_map w es) c = OfCount r at Map w (entries_count es) c ⊎ ComplainsInEntriesBy r K (at + length (head Map w (entries_count es))) [] es c
  ComplainsBy r K at (tag w n s) c = OfHead r at Tag w n c ⊎ ComplainsBy r K (at + length (head Tag w n)) s c
  ComplainsBy r K at (simple n) c = ⊥

  -- members from an offset on
  pub ComplainsInBy : Rules → (ℕ → List Spelling → Spelling → Complaint → Type 0) → ℕ → Spellings → Complaint → Type 0
  ComplainsInBy r K at no_spellings c = ⊥
  ComplainsInBy r K at (a_spelling s ss) c = ComplainsBy r K at s c ⊎ ComplainsInBy r K (at + length (spell s)) ss c

  -- pairs from an offset on, after these keys
  pub ComplainsInEntriesBy : Rules → (ℕ → List Spelling → Spelling → Complaint → Type 0) → ℕ → List Spelling → SpelledEntries → Complaint → Type 0
  ComplainsInEntriesBy r K at before no_entries c = ⊥
  ComplainsInEntriesBy r K at before (entry k v es) c =
      ComplainsBy r K at k c ⊎ K at before k c ⊎ ComplainsBy r K (at + length (spell k)) v c
      ⊎ ComplainsInEntriesBy r K (at + length (spell k) + length (spell v)) (k ∷ before) es c

abbrev pub Complains : Rules → ℕ → Spelling → Complaint → Type 0
Complains r = ComplainsBy r (OfKey r.keys)

-- on the kinds of keys
abbrev pub OfKinds : ℕ → Spelling → Complaint → Type 0
OfKinds = ComplainsBy form OfKind

-- an item has this complaint, within limits and by rules
abbrev pub IsComplaint : Bounds → Rules → Spelling → Complaint → Type 0
IsComplaint limits r s c = Complains r 0 s c ⊎ (IsTrue r.kinds × (limits.keys ≡ IntegersAndTexts) × OfKinds 0 s c)
