-- The annotated bytes of an item: a line for each head and each break, with its offset, its bytes and what they mean; a line for each 16 bytes of a
-- payload.
use Rattle.std.specs.Prelude.{◌≡◌, ℕ, zero, suc, ◌+◌, ◌-◌, ◌*◌, ◌/◌, ◌==◌, ◌&&◌, ◌<◌, ◌++◌, nat_le, nat_lt, min, if◌then◌else◌, Bool, true, false, List, [], ◌∷◌, length, map, take, drop, replicate, Option, Some, None, is_none, codes, decimal}
use Rattle.std.specs.Io.KnownBytes.{Appends}
use Rattle.hex.specs.Hex.{encode_lower}
use Rattle.cbor_head.specs.Prelude.{Bounds, Spelling, IsItem, spell, IsBeginning, form, refusal, accepted, refused, IsVerdict}
use Rattle.cbor_head.specs.declared.reason.Reason.TheVariants.{Read, Write, Truncated}
use Rattle.cbor_head.specs.declared.event.EventKind.TheVariants.{Unsigned, Negative, Simple, Bytes, Text, Chunk, Piece, Array, Map, Tag, End}
use Rattle.cbor_head.specs.declared.{reason.Refusal.Refusal, event.Event.Event, event.EventKind.EventKind}
use Rattle.theory_automaton.specs.Event.{events, event_size, cut, joined}
use Rattle.theory_automaton.specs.{Open.open_after, Marks.count_of}
use Rattle.cbor_listing.specs.{Written.capped, declared.annotated_line.Context.Context}

-- ---- columns

abbrev pub spaces : ℕ → List ℕ
spaces n = replicate n 0x20

-- offset, bytes in hex and indentation: 8 and 32 columns and the columns of the level, with two spaces between
abbrev pub row_start : ℕ → ℕ → List ℕ → List ℕ
row_start at level bytes =
    spaces (8 - length (decimal at)) ++ decimal at ++ codes "  "
    ++ encode_lower bytes ++ spaces (32 - length (encode_lower bytes)) ++ codes "  "
    ++ spaces (2 * min level 32)

-- ---- what an event means

abbrev pub counted : List ℕ → List ℕ → ℕ → List ℕ
counted one many n = decimal n ++ (if n == 1 then one else many)

abbrev pub extent : List ℕ → List ℕ → Option ℕ → List ℕ
extent one many None = codes "indefinite length"
extent one many (Some n) = counted one many n

abbrev pub in_bytes : Option ℕ → List ℕ
in_bytes count = extent (codes " byte") (codes " bytes") count

abbrev pub simple_meaning : ℕ → List ℕ
simple_meaning n =
    if n == 20 then codes "false"
    else if n == 21 then codes "true"
    else if n == 22 then codes "null"
    else if n == 23 then codes "undefined"
    else codes "simple value " ++ decimal n

-- what a head or a break means
abbrev pub meaning : EventKind → List ℕ
meaning (Unsigned n) = codes "unsigned integer " ++ decimal n
meaning (Negative n) = codes "negative integer -" ++ decimal (n + 1)
meaning (Simple n) = simple_meaning n
meaning (Bytes count) = codes "byte string, " ++ in_bytes count
meaning (Text count) = codes "text string, " ++ in_bytes count
meaning (Chunk n) = codes "chunk, " ++ in_bytes (Some n)
meaning (Piece n) = []
meaning (Array count) = codes "array, " ++ extent (codes " member") (codes " members") count
meaning (Map count) = codes "map, " ++ extent (codes " pair") (codes " pairs") count
meaning (Tag n) = codes "tag " ++ decimal n
meaning End = codes "break"

-- a byte of a text: printable ASCII as it is, and a dot for any other
abbrev pub visible : ℕ → ℕ
visible b = if nat_le 0x20 b && nat_le b 0x7e then b else 0x2e

-- what bytes of a payload hold
abbrev pub content : Bool → List ℕ → List ℕ
content true bytes = codes "\"" ++ map visible bytes ++ codes "\""
content false bytes = codes "h'" ++ encode_lower bytes ++ codes "'"

-- ---- the lines of an event

abbrev pub payload_row : ℕ → ℕ → Bool → List ℕ → List ℕ
payload_row at level is_text bytes = row_start at level bytes ++ content is_text bytes ++ codes "\n"

-- the first lines of a payload's bytes, 16 bytes each, fewer in the last
abbrev pub payload_rows : ℕ → ℕ → ℕ → Bool → List ℕ → List ℕ
payload_rows zero at level is_text bytes = []
payload_rows (suc k) at level is_text bytes =
    payload_rows k at level is_text bytes ++ payload_row (at + 16 * k) level is_text (take 16 (drop (16 * k) bytes))

-- the lines of a payload of at most 512 bytes; of a longer one the lines of the first 512, and a line that says so
abbrev pub payload_text : ℕ → ℕ → Bool → List ℕ → List ℕ
payload_text at level is_text bytes =
    payload_rows ((min 512 (length bytes) + 15) / 16) at level is_text bytes
    ++ (if nat_lt 512 (length bytes) then codes "          ..\n" else [])

-- whether a piece of n bytes ends a payload of which this number of bytes is still to come
abbrev pub ends_payload : ℕ → ℕ → Bool
ends_payload left n = nat_lt 0 left && nat_le left n

-- For a head or a break its line; for the last piece of a payload the lines of all its bytes. The bytes are those from the start of the item, which is at
-- this offset of the input.
abbrev pub event_rows_by : EventKind → ℕ → ℕ → Context → Event → List ℕ → List ℕ
event_rows_by (Piece n) start level context e bytes =
    if ends_payload context.left n then payload_text (start + context.begun) context.level context.is_text (take context.size (drop context.begun bytes)) else []
event_rows_by kind start level context e bytes =
    row_start (start + e.place) level (take (event_size e) (drop e.place bytes)) ++ meaning kind ++ codes "\n"

abbrev pub event_rows : ℕ → ℕ → Context → Event → List ℕ → List ℕ
event_rows start level context e bytes = event_rows_by e.kind start level context e bytes

-- after the head of a string or of a chunk, which is at this level and ends at this offset
abbrev pub string_context : Bool → Bool → ℕ → ℕ → ℕ → Context
string_context is_text in_chunks level at size = record { is_text = is_text; in_chunks = in_chunks; level = level + 1; begun = at; size = size; left = size }

-- after an event that is at this level and ends at this offset
abbrev pub context_by : EventKind → ℕ → ℕ → Context → Context
context_by (Bytes count) level at context = string_context false (is_none count) level at (count_of count)
context_by (Text count) level at context = string_context true (is_none count) level at (count_of count)
context_by (Chunk n) level at context = string_context context.is_text context.in_chunks level at n
context_by (Piece n) level at context = record context { left = context.left - n }
context_by End level at context = record context { in_chunks = false }
context_by _ level at context = context

abbrev pub context_after : ℕ → Event → Context → Context
context_after level e context = context_by e.kind level (e.place + event_size e) context

-- the level of the line of an event, before which this number of arrays, maps and tags is open; a break is at the level
-- of its head
abbrev pub level : ℕ → Context → EventKind → ℕ
level opened context (Chunk n) = opened + 1
level opened context End = if context.in_chunks then opened else opened - 1
level opened context _ = opened

-- ---- the lines of an item

abbrev pub level_in : Spelling → Context → Event → ℕ
level_in item context e = level (open_after e.place item) context e.kind

-- the lines of one of an item's events; the item starts at this offset
abbrev pub annotated_event : ℕ → Spelling → Context → Event → List ℕ
annotated_event start item context e = event_rows start (level_in item context e) context e (spell item)

abbrev pub annotated_events : ℕ → Spelling → Context → List Event → List ℕ
annotated_events start item context [] = []
annotated_events start item context (e ∷ es) =
    annotated_event start item context e ++ annotated_events start item (context_after (level_in item context e) e context) es

-- before any event
abbrev pub no_string : Context
no_string = record { is_text = false; in_chunks = false; level = 0; begun = 0; size = 0; left = 0 }

abbrev pub context_after_events : Spelling → Context → List Event → Context
context_after_events item context [] = context
context_after_events item context (e ∷ es) = context_after_events item (context_after (level_in item context e) e context) es

-- the lines of the first of an item's events
abbrev pub annotated : ℕ → Spelling → List Event → List ℕ
annotated start item es = annotated_events start item no_string es

-- ---- what was written

-- the annotated bytes of t, at offset start: of each item that starts with them, the lines of the events that end within them
pub record IsAnnotation (start d : ℕ) (t out : List ℕ) : Type 0 where
  pub beginning : IsBeginning d t
  pub of_events : (s : Spelling) (rest : List ℕ) → IsItem d s (t ++ rest) → out ≡ annotated start s (cut (length t) (events 0 s))

-- The same up to a point within the lines of the last event, which ends where t does: no byte after it was consumed.
pub record IsAnnotationCut (start d : ℕ) (t out : List ℕ) : Type 0 where
  pub beginning : IsBeginning d t
  pub earlier : List Event
  pub last : Event
  pub are : (s : Spelling) (rest : List ℕ) → IsItem d s (t ++ rest) → joined (earlier ++ last ∷ []) ≡ cut (length t) (events 0 s)
  pub ends : last.place + event_size last ≡ length t
  pub part : ℕ
  pub of_events : (s : Spelling) (rest : List ℕ) → IsItem d s (t ++ rest)
      → (part < length (annotated_event start s (context_after_events s no_string earlier) last))
      × (out ≡ annotated start s earlier ++ take part (annotated_event start s (context_after_events s no_string earlier) last))

-- the item at the start of the bytes b, at offset start, is accepted, and all its lines were written
pub record IsAnnotated (start : ℕ) (limits : Bounds) (b : List ℕ) (count : ℕ) (old new : Option (List ℕ)) : Type 0 where
  pub item : Spelling
  pub verdict : IsVerdict limits form b (accepted item)
  pub size : count ≡ length (spell item)
  pub written : Appends old new (annotated start item (events 0 item))

-- the bytes b are refused, and something was written
pub data IsUnannotated (start : ℕ) (limits : Bounds) (b : List ℕ) (f : Refusal) (old new : Option (List ℕ)) : Type 0 where
  -- the verdict of form: the annotated bytes before its offset
  of_verdict : (out : List ℕ) → IsVerdict limits form b (refused f)
      → IsAnnotation start limits.depth (take f.place b) out → Appends old new out → IsUnannotated start limits b f old new
  -- the reader failed: the annotated bytes consumed; as a whole input, these are Truncated
  of_reader : (out : List ℕ) → f ≡ refusal Read f.read f.read
      → IsVerdict limits form (take f.read b) (refused (refusal Truncated f.read f.read))
      → IsAnnotation start limits.depth (take f.read b) out → Appends old new out → IsUnannotated start limits b f old new
  -- the writer failed or accepted nothing: the annotated bytes consumed, up to the offset
  of_writer : (out : List ℕ) → f ≡ refusal Write (capped (length out)) f.read
      → IsAnnotationCut start limits.depth (take f.read b) out → Appends old new out → IsUnannotated start limits b f old new
