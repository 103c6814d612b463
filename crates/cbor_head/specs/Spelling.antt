-- How a value is encoded in bytes (RFC 8949, section 3).
use Rattle.std.specs.Prelude.{ℕ, suc, max, ◌≡◌, ◌≤◌, ◌++◌, List, [], ◌∷◌, length, flat_map}
use Rattle.std.specs.List.{AllByRecursion}
use Rattle.cbor_head.specs.Head.{Holds, IsSimple, head, shortest}
use Rattle.cbor_head.specs.Value as value
use Rattle.cbor_head.specs.Value.{Value, Values, Entries, AreBytes}
use Rattle.cbor_head.specs.declared.major.Major.TheVariants.{Unsigned, Negative, Bytes, Text, Array, Map, Tag, Simple}
use Rattle.cbor_head.specs.declared.{major.Major.Major, width.Width.Width, width.Width.TheVariants.Indefinite}

-- a definite string within an indefinite one
pub record Chunk : Type 0 where
  pub width : Width
  pub payload : List ℕ

-- an item with the width of each head. The width of an item of indefinite length is Indefinite. A simple value has one encoding.
mutual
  pub data Spelling : Type 0 where
    unsigned : Width → ℕ → Spelling
    negative : Width → ℕ → Spelling
    bytes : Width → List ℕ → Spelling
    text : Width → List ℕ → Spelling
    byte_chunks : List Chunk → Spelling
    text_chunks : List Chunk → Spelling
    array : Width → Spellings → Spelling
    a_map : Width → SpelledEntries → Spelling
    tag : Width → ℕ → Spelling → Spelling
    simple : ℕ → Spelling

  pub data Spellings : Type 0 where
    no_spellings : Spellings
    a_spelling : Spelling → Spellings → Spellings

  pub data SpelledEntries : Type 0 where
    no_entries : SpelledEntries
    entry : Spelling → Spelling → SpelledEntries → SpelledEntries

-- how many members
abbrev pub spellings_count : Spellings → ℕ
spellings_count no_spellings = 0
spellings_count (a_spelling s ss) = suc (spellings_count ss)

-- how many pairs
abbrev pub entries_count : SpelledEntries → ℕ
entries_count no_entries = 0
entries_count (entry k v es) = suc (entries_count es)

-- the break, if the length is indefinite (section 3.2.1)
abbrev pub break_of : Width → List ℕ
break_of Indefinite = 0xff ∷ []
break_of _ = []

-- a definite string: its length, and the payload
abbrev pub string_bytes_of : Major → Width → List ℕ → List ℕ
string_bytes_of major width payload = head major width (length payload) ++ payload

-- a chunk, as the definite string that it is
abbrev pub chunk_bytes : Major → Chunk → List ℕ
chunk_bytes major c = string_bytes_of major c.width c.payload

-- an indefinite string: the opener, the chunks, the break (section 3.2.3)
abbrev pub chunked : Major → List Chunk → List ℕ
chunked major cs = head major Indefinite 0 ++ flat_map (chunk_bytes major) cs ++ 0xff ∷ []

-- the bytes of an encoding
abbrev mutual
  pub spell : Spelling → List ℕ
  spell (unsigned w n) = head Unsigned w n
  spell (negative w n) = head Negative w n
  spell (bytes w payload) = string_bytes_of Bytes w payload
  spell (text w payload) = string_bytes_of Text w payload
  spell (byte_chunks cs) = chunked Bytes cs
  spell (text_chunks cs) = chunked Text cs
  spell (array w ss) = head Array w (spellings_count ss) ++ spell_all ss ++ break_of w
  spell (a_map w es) = head Map w (entries_count es) ++ spell_entries es ++ break_of w
  spell (tag w n s) = head Tag w n ++ spell s
  spell (simple n) = head Simple (shortest n) n

  pub spell_all : Spellings → List ℕ
  spell_all no_spellings = []
  spell_all (a_spelling s ss) = spell s ++ spell_all ss

  pub spell_entries : SpelledEntries → List ℕ
  spell_entries no_entries = []
  spell_entries (entry k v es) = spell k ++ spell v ++ spell_entries es

-- a chunk is definite, and its payload is bytes
abbrev pub IsChunk : Chunk → Type 0
IsChunk c = Holds c.width (length c.payload) × AreBytes c.payload

-- a count that the width holds, or an indefinite length
abbrev pub HoldsOrIndefinite : Width → ℕ → Type 0
HoldsOrIndefinite Indefinite n = Unit {0}
HoldsOrIndefinite w n = Holds w n

-- each width holds its argument, and the number of each simple value exists
abbrev mutual
  pub IsSpelled : Spelling → Type 0
  IsSpelled (unsigned w n) = Holds w n
  IsSpelled (negative w n) = Holds w n
  IsSpelled (bytes w payload) = Holds w (length payload) × AreBytes payload
  IsSpelled (text w payload) = Holds w (length payload) × AreBytes payload
  IsSpelled (byte_chunks cs) = AllByRecursion IsChunk cs
  IsSpelled (text_chunks cs) = AllByRecursion IsChunk cs
  IsSpelled (array w ss) = HoldsOrIndefinite w (spellings_count ss) × AreSpelled ss
  IsSpelled (a_map w es) = HoldsOrIndefinite w (entries_count es) × AreEntriesSpelled es
  IsSpelled (tag w n s) = Holds w n × IsSpelled s
  IsSpelled (simple n) = IsSimple n

  pub AreSpelled : Spellings → Type 0
  AreSpelled no_spellings = Unit {0}
  AreSpelled (a_spelling s ss) = IsSpelled s × AreSpelled ss

  pub AreEntriesSpelled : SpelledEntries → Type 0
  AreEntriesSpelled no_entries = Unit {0}
  AreEntriesSpelled (entry k v es) = IsSpelled k × IsSpelled v × AreEntriesSpelled es

-- how deep arrays, maps and tags nest
abbrev mutual
  pub depth : Spelling → ℕ
  depth (array w ss) = suc (depth_all ss)
  depth (a_map w es) = suc (depth_entries es)
  depth (tag w n s) = suc (depth s)
  depth _ = 0

  pub depth_all : Spellings → ℕ
  depth_all no_spellings = 0
  depth_all (a_spelling s ss) = max (depth s) (depth_all ss)

  pub depth_entries : SpelledEntries → ℕ
  depth_entries no_entries = 0
  depth_entries (entry k v es) = max (max (depth k) (depth v)) (depth_entries es)

-- the content of an indefinite string
abbrev pub chunks_joined : List Chunk → List ℕ
chunks_joined cs = flat_map (λ c. c.payload) cs

-- the value of an encoding
abbrev mutual
  pub value_of : Spelling → Value
  value_of (unsigned w n) = value.unsigned n
  value_of (negative w n) = value.negative n
  value_of (bytes w payload) = value.bytes payload
  value_of (text w payload) = value.text payload
  value_of (byte_chunks cs) = value.bytes (chunks_joined cs)
  value_of (text_chunks cs) = value.text (chunks_joined cs)
  value_of (array w ss) = value.array (values_of ss)
  value_of (a_map w es) = value.map (entries_of es)
  value_of (tag w n s) = value.tag n (value_of s)
  value_of (simple n) = value.simple n

  pub values_of : Spellings → Values
  values_of no_spellings = value.no_values
  values_of (a_spelling s ss) = value.a_value (value_of s) (values_of ss)

  pub entries_of : SpelledEntries → Entries
  entries_of no_entries = value.no_entries
  entries_of (entry k v es) = value.entry (value_of k) (value_of v) (entries_of es)

-- well-formed within a depth, and its bytes
pub record IsItem (d : ℕ) (s : Spelling) (bs : List ℕ) : Type 0 where
  pub spelled : IsSpelled s
  pub within : depth s ≤ d
  pub bytes_are : spell s ≡ bs
