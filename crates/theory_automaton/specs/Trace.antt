-- What is reported of an item (RFC 8949, section 3): a mark for each head and each break, and one for each byte of a
-- payload. Proofs use marks; `Event` defines the events that they make up.
use Rattle.std.specs.Prelude.{ℕ, suc, ◌+◌, ◌-◌, ◌++◌, List, [], ◌∷◌, length, flat_map, nat_le, if◌then◌else◌}
use Rattle.cbor_head.specs.Prelude.{shortest, Chunk, Spelling, Spellings, SpelledEntries, unsigned, negative, bytes, text, byte_chunks, text_chunks, array, a_map, tag, simple, no_spellings, a_spelling, no_entries, entry, spellings_count, entries_count}
use Rattle.cbor_head.specs.declared.major.Major.TheVariants.{Unsigned, Negative, Bytes, Text, Array, Map, Tag, Simple}
use Rattle.cbor_head.specs.declared.width.Width.TheVariants.{One, Two, Four, Eight, Indefinite}
use Rattle.cbor_head.specs.declared.{major.Major.Major, width.Width.Width}

-- the kind of a mark
pub data Mark : Type 0 where
  -- the head of an item; at Indefinite the number is 0
  a_head : Major → Width → ℕ → Mark
  -- the head of a chunk of an indefinite string
  a_chunk : Width → ℕ → Mark
  -- a byte of a payload
  a_byte : Mark
  -- a break
  a_break : Mark

-- the number of bytes of an argument after the first byte
abbrev pub more_bytes : Width → ℕ
more_bytes One = 1
more_bytes Two = 2
more_bytes Four = 4
more_bytes Eight = 8
more_bytes _ = 0

-- the number of bytes of a mark
abbrev pub size : Mark → ℕ
size (a_head major w n) = suc (more_bytes w)
size (a_chunk w n) = suc (more_bytes w)
size a_byte = 1
size a_break = 1

-- The number of bytes of marks. The marks of an item tile its bytes, so the next one begins where one ends.
abbrev pub total : List Mark → ℕ
total [] = 0
total (m ∷ ms) = size m + total ms

-- one for each byte
abbrev pub payload_marks : List ℕ → List Mark
payload_marks [] = []
payload_marks (b ∷ bs) = a_byte ∷ payload_marks bs

-- the head of a chunk, and its payload
abbrev pub chunk_marks : Chunk → List Mark
chunk_marks c = a_chunk c.width (length c.payload) ∷ payload_marks c.payload

-- the head of an array or map, of definite or indefinite length
abbrev pub opener : Major → Width → ℕ → Mark
opener major Indefinite n = a_head major Indefinite 0
opener major w n = a_head major w n

-- the break, if the length is indefinite
abbrev pub break_marks : Width → List Mark
break_marks Indefinite = a_break ∷ []
break_marks _ = []

-- the marks of an item, in the order of its bytes
abbrev mutual
  pub trace : Spelling → List Mark
  trace (unsigned w n) = a_head Unsigned w n ∷ []
  trace (negative w n) = a_head Negative w n ∷ []
  trace (bytes w payload) = a_head Bytes w (length payload) ∷ payload_marks payload
  trace (text w payload) = a_head Text w (length payload) ∷ payload_marks payload
  trace (byte_chunks cs) = a_head Bytes Indefinite 0 ∷ flat_map chunk_marks cs ++ a_break ∷ []
  trace (text_chunks cs) = a_head Text Indefinite 0 ∷ flat_map chunk_marks cs ++ a_break ∷ []
  trace (array w ss) = opener Array w (spellings_count ss) ∷ trace_all ss ++ break_marks w
  trace (a_map w es) = opener Map w (entries_count es) ∷ trace_entries es ++ break_marks w
  trace (tag w n s) = a_head Tag w n ∷ trace s
  trace (simple n) = a_head Simple (shortest n) n ∷ []

  -- of the members of an array
  pub trace_all : Spellings → List Mark
  trace_all no_spellings = []
  trace_all (a_spelling s ss) = trace s ++ trace_all ss

  -- of the pairs of a map, each key before its value
  pub trace_entries : SpelledEntries → List Mark
  trace_entries no_entries = []
  trace_entries (entry k v es) = trace k ++ trace v ++ trace_entries es

-- those of the marks that end within the first t bytes
abbrev pub within : ℕ → List Mark → List Mark
within t [] = []
within t (m ∷ ms) = if nat_le (size m) t then m ∷ within (t - size m) ms else []
