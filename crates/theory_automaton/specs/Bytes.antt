-- The bytes of marks and events (RFC 8949, section 3).
use Rattle.std.specs.Prelude.{◌≡◌, ℕ, List, [], ◌∷◌, length, Option, Some, None}
use Rattle.cbor_head.specs.Prelude.{Holds, IsHead, head}
use Rattle.cbor_head.specs.declared.{major.Major.Major, width.Width.Width, width.Width.TheVariants.Indefinite, event.EventKind.EventKind}
use Rattle.cbor_head.specs.declared.event.EventKind.TheVariants.{Piece}
use Rattle.theory_automaton.specs.Trace.{Mark, a_head, a_chunk, a_byte, a_break}
use Rattle.theory_automaton.specs.Marks.{mark_of, IsProper}

-- the bytes of a head whose width holds its argument; at Indefinite the initial byte, and the number is 0
abbrev pub IsHeadBytes : Major → Width → ℕ → List ℕ → Type 0
IsHeadBytes major Indefinite n bs = (n ≡ 0) × (bs ≡ head major Indefinite 0)
IsHeadBytes major w n bs = IsHead major w n × (bs ≡ head major w n)

-- The type of the last head of an item. The head of a chunk does not change it: it is the type of the chunk's string.
abbrev pub type_after : Option Major → Mark → Option Major
type_after type (a_head major w n) = Some major
type_after type m = type

-- the same for these marks
abbrev pub last_type : Option Major → List Mark → Option Major
last_type type [] = type
last_type type (m ∷ ms) = last_type (type_after type m) ms

-- the definite head of a chunk, of its string's type
abbrev pub IsChunkHead : Option Major → Width → ℕ → List ℕ → Type 0
IsChunkHead (Some major) w n bs = Holds w n × (bs ≡ head major w n)
IsChunkHead None w n bs = ⊥

-- the bytes of a mark after a head of this type; for a payload's mark, that it is one byte
abbrev pub IsMarkBytes : Option Major → Mark → List ℕ → Type 0
IsMarkBytes type (a_head major w n) bs = IsHeadBytes major w n bs
IsMarkBytes type (a_chunk w n) bs = IsChunkHead type w n bs
IsMarkBytes type a_byte bs = length bs ≡ 1
IsMarkBytes type a_break bs = bs ≡ 0xff ∷ []

-- a piece has this number of bytes; any other event has the bytes of its mark
abbrev pub IsBytesOf : Option Major → Width → EventKind → List ℕ → Type 0
IsBytesOf type w (Piece n) bs = length bs ≡ n
IsBytesOf type w kind bs = IsMarkBytes type (mark_of w kind) bs

-- an event of this width and kind, after what was reported, is these bytes
abbrev pub IsEventBytes : List Mark → Width → EventKind → List ℕ → Type 0
IsEventBytes reported w kind bs = IsProper w kind × IsBytesOf (last_type None reported) w kind bs
