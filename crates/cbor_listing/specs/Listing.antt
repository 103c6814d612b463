-- The listing of an item: a line for each of its events but the pieces of payloads.
use Rattle.std.specs.Prelude.{◌≡◌, ℕ, ◌+◌, ◌<◌, ◌++◌, List, [], ◌∷◌, length, take, flat_map, Option, Some, None, codes, decimal}
use Rattle.std.specs.Io.KnownBytes.{Appends}
use Rattle.cbor_head.specs.Prelude.{Bounds, Spelling, IsItem, spell, IsBeginning, form, refusal, accepted, refused, IsVerdict}
use Rattle.cbor_head.specs.declared.reason.Reason.TheVariants.{Read, Write, Truncated}
use Rattle.cbor_head.specs.declared.width.Width.TheVariants.{Direct, One, Two, Four, Eight, Indefinite}
use Rattle.cbor_head.specs.declared.event.EventKind.TheVariants.{Unsigned, Negative, Simple, Bytes, Text, Chunk, Piece, Array, Map, Tag, End}
use Rattle.cbor_head.specs.declared.{reason.Reason.Reason, reason.Refusal.Refusal, width.Width.Width, event.Event.Event, event.EventKind.EventKind}
use Rattle.theory_automaton.specs.Event.{events, event_size, cut}
use Rattle.theory_automaton.specs.Reasons.{IsEventReason}
use Rattle.cbor_listing.specs.Written.{capped}

-- the name of an event, and the argument of its head if it has one; a piece has no line
-- (RFC 8949, section 3)
abbrev pub columns : EventKind → Option (List ℕ × Option ℕ)
columns (Unsigned n) = Some (codes "unsigned", Some n)
columns (Negative n) = Some (codes "negative", Some n)
columns (Simple n) = Some (codes "simple", Some n)
columns (Bytes count) = Some (codes "bytes", count)
columns (Text count) = Some (codes "text", count)
columns (Chunk n) = Some (codes "chunk", Some n)
columns (Piece n) = None
columns (Array count) = Some (codes "array", count)
columns (Map count) = Some (codes "map", count)
columns (Tag n) = Some (codes "tag", Some n)
columns End = Some (codes "end", None)

-- an argument in decimal, or a hyphen for none
abbrev pub argument_text : Option ℕ → List ℕ
argument_text None = codes "-"
argument_text (Some n) = decimal n

-- the number of bytes of the argument after the first byte of a head, or a hyphen for no argument
abbrev pub width_text : Width → List ℕ
width_text Direct = codes "0"
width_text One = codes "1"
width_text Two = codes "2"
width_text Four = codes "4"
width_text Eight = codes "8"
width_text Indefinite = codes "-"

-- Offset, name, argument and width, one space between, and a line feed. Offsets are counted from where
-- the input starts, and the item starts at this one.
abbrev pub row : ℕ → Event → Option (List ℕ × Option ℕ) → List ℕ
row start e None = []
row start e (Some c) =
    decimal (start + e.place) ++ codes " " ++ c.0 ++ codes " " ++ argument_text c.1 ++ codes " "
    ++ width_text e.width ++ codes "\n"

-- the line of an event
abbrev pub line : ℕ → Event → List ℕ
line start e = row start e (columns e.kind)

-- the lines of events
abbrev pub lines : ℕ → List Event → List ℕ
lines start es = flat_map (line start) es

-- the listing of the bytes t, at offset start: of each item that starts with them, the lines of the events that end
-- within them
pub record IsListing (start d : ℕ) (t out : List ℕ) : Type 0 where
  pub beginning : IsBeginning d t
  pub of_events : (s : Spelling) (rest : List ℕ) → IsItem d s (t ++ rest)
      → out ≡ lines start (cut (length t) (events 0 s))

-- The same up to a point within the last line. The event of this line ends where t does: no byte after it was consumed.
pub record IsStopped (start d : ℕ) (t out : List ℕ) : Type 0 where
  pub beginning : IsBeginning d t
  pub earlier : List Event
  pub last : Event
  pub of_events : (s : Spelling) (rest : List ℕ) → IsItem d s (t ++ rest)
      → cut (length t) (events 0 s) ≡ earlier ++ last ∷ []
  pub ends : last.place + event_size last ≡ length t
  pub part : ℕ
  pub within : part < length (line start last)
  pub is : out ≡ lines start earlier ++ take part (line start last)

-- the item at the start of the bytes b, at offset start, is accepted, and its listing was written
pub record IsListed (start : ℕ) (limits : Bounds) (b : List ℕ) (count : ℕ) (old new : Option (List ℕ)) : Type 0 where
  pub item : Spelling
  pub verdict : IsVerdict limits form b (accepted item)
  pub size : count ≡ length (spell item)
  pub written : Appends old new (lines start (events 0 item))

-- the bytes b are refused, and something was written
pub data IsUnlisted (start : ℕ) (limits : Bounds) (b : List ℕ) (f : Refusal) (old new : Option (List ℕ)) : Type 0 where
  -- the verdict of form: the listing of the bytes before its offset
  of_verdict : (out : List ℕ) → IsVerdict limits form b (refused f)
      → IsListing start limits.depth (take f.place b) out → Appends old new out → IsUnlisted start limits b f old new
  -- the reader failed: the listing of the bytes consumed; as a whole input, these are Truncated
  of_reader : (out : List ℕ) → f ≡ refusal Read f.read f.read
      → IsVerdict limits form (take f.read b) (refused (refusal Truncated f.read f.read))
      → IsListing start limits.depth (take f.read b) out → Appends old new out → IsUnlisted start limits b f old new
  -- the writer failed or accepted nothing: the listing of the bytes consumed, up to the offset
  of_writer : (out : List ℕ) → f ≡ refusal Write (capped (length out)) f.read
      → IsStopped start limits.depth (take f.read b) out → Appends old new out → IsUnlisted start limits b f old new

-- the reasons of a reader of events, and that the writer failed
abbrev pub IsListingReason : Reason → Type 0
IsListingReason Write = Unit {0}
IsListingReason r = IsEventReason r
