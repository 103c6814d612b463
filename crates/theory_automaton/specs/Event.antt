-- The events of an item (RFC 8949, section 3), each with its offset: one for each head and each break, and one piece
-- for each payload that is not empty.
use Rattle.std.specs.Prelude.{◌≡◌, ℕ, suc, ◌+◌, ◌-◌, ◌++◌, nat_le, nat_lt, if◌then◌else◌, List, [], ◌∷◌, length, flat_map, Option, Some, None}
use Rattle.cbor_head.specs.Prelude.{head, shortest, Chunk, Spelling, Spellings, SpelledEntries, unsigned, negative, bytes, text, byte_chunks, text_chunks, array, a_map, tag, simple, no_spellings, a_spelling, no_entries, entry, spellings_count, entries_count, chunk_bytes, spell, spell_all, spell_entries}
use Rattle.cbor_head.specs.declared.major.Major.TheVariants as majors
use Rattle.cbor_head.specs.declared.event.EventKind.TheVariants.{Unsigned, Negative, Simple, Bytes, Text, Chunk as ChunkHead, Piece, Array, Map, Tag, End}
use Rattle.cbor_head.specs.declared.{major.Major.Major, width.Width.Width, width.Width.TheVariants.Direct, width.Width.TheVariants.Indefinite}
use Rattle.cbor_head.specs.declared.event.{Event.Event, EventKind.EventKind}
use Rattle.theory_automaton.specs.{Trace.Mark, Trace.total, Marks.marks_of, Marks.IsProper}

-- an event at an offset
abbrev pub event : ℕ → Width → EventKind → Event
event at w kind = record { place = at; width = w; kind = kind }

-- the count that a head reports
abbrev pub count_at : Width → ℕ → Option ℕ
count_at Indefinite n = None
count_at w n = Some n

-- the piece of a payload that is not empty
abbrev pub payload_events : ℕ → List ℕ → List Event
payload_events at [] = []
payload_events at (b ∷ bs) = event at Direct (Piece (suc (length bs))) ∷ []

-- the chunks of an indefinite string
abbrev pub chunks_events : ℕ → Major → List Chunk → List Event
chunks_events at major [] = []
chunks_events at major (c ∷ cs) =
    event at c.width (ChunkHead (length c.payload)) ∷ payload_events (at + length (head major c.width (length c.payload))) c.payload
    ++ chunks_events (at + length (chunk_bytes major c)) major cs

-- an indefinite string
abbrev pub chunked_events : ℕ → Major → EventKind → List Chunk → List Event
chunked_events at major kind cs =
    event at Indefinite kind ∷ (chunks_events (at + 1) major cs ++ event (at + 1 + length (flat_map (chunk_bytes major) cs)) Indefinite End ∷ [])

-- the break
abbrev pub break_events : ℕ → Width → List Event
break_events at Indefinite = event at Indefinite End ∷ []
break_events at _ = []

-- the events of an item that begins at this offset
abbrev mutual
  pub events : ℕ → Spelling → List Event
  events at (unsigned w n) = event at w (Unsigned n) ∷ []
  events at (negative w n) = event at w (Negative n) ∷ []
  events at (bytes w payload) = event at w (Bytes (Some (length payload))) ∷ payload_events (at + length (head majors.Bytes w (length payload))) payload
  events at (text w payload) = event at w (Text (Some (length payload))) ∷ payload_events (at + length (head majors.Text w (length payload))) payload
  events at (byte_chunks cs) = chunked_events at majors.Bytes (Bytes None) cs
  events at (text_chunks cs) = chunked_events at majors.Text (Text None) cs
  events at (array w ss) =
      event at w (Array (count_at w (spellings_count ss))) ∷ (events_in (at + length (head majors.Array w (spellings_count ss))) ss
      ++ break_events (at + length (head majors.Array w (spellings_count ss)) + length (spell_all ss)) w)
  events at (a_map w es) =
      event at w (Map (count_at w (entries_count es))) ∷ (events_in_entries (at + length (head majors.Map w (entries_count es))) es
      ++ break_events (at + length (head majors.Map w (entries_count es)) + length (spell_entries es)) w)
  events at (tag w n s) = event at w (Tag n) ∷ events (at + length (head majors.Tag w n)) s
  events at (simple n) = event at (shortest n) (Simple n) ∷ []

  -- of the members of an array, the first at this offset
  pub events_in : ℕ → Spellings → List Event
  events_in at no_spellings = []
  events_in at (a_spelling s ss) = events at s ++ events_in (at + length (spell s)) ss

  -- of the pairs of a map, each key before its value
  pub events_in_entries : ℕ → SpelledEntries → List Event
  events_in_entries at no_entries = []
  events_in_entries at (entry k v es) = events at k ++ (events (at + length (spell k)) v ++ events_in_entries (at + length (spell k) + length (spell v)) es)

-- ---- events that were reported

-- the marks of events
abbrev pub marks_in : List Event → List Mark
marks_in es = flat_map (λ e. marks_of e.width e.kind) es

-- the number of bytes of an event
abbrev pub event_size : Event → ℕ
event_size e = total (marks_of e.width e.kind)

-- a piece of n bytes before another event
abbrev pub joined_with : Event → ℕ → EventKind → Event → List Event → List Event
joined_with e n (Piece m) f es = event e.place e.width (Piece (n + m)) ∷ es
joined_with e n _ f es = e ∷ f ∷ es

-- a piece of n bytes before others
abbrev pub piece_onto : Event → ℕ → List Event → List Event
piece_onto e n [] = e ∷ []
piece_onto e n (f ∷ es) = joined_with e n f.kind f es

-- an event of this kind before others: a piece and one that follows it are one
abbrev pub kind_onto : EventKind → Event → List Event → List Event
kind_onto (Piece n) e es = piece_onto e n es
kind_onto _ e es = e ∷ es

-- an event before others
abbrev pub onto : Event → List Event → List Event
onto e es = kind_onto e.kind e es

-- neighbouring pieces as one
abbrev pub joined : List Event → List Event
joined [] = []
joined (e ∷ es) = onto e (joined es)

-- the prefix of a piece that ends after the first t bytes
abbrev pub prefix_of : ℕ → EventKind → Event → List Event
prefix_of t (Piece n) e = if nat_lt e.place t then event e.place e.width (Piece (t - e.place)) ∷ [] else []
prefix_of t _ e = []

-- those that end within the first t bytes, the last piece cut there
abbrev pub cut : ℕ → List Event → List Event
cut t [] = []
cut t (e ∷ es) = if nat_le (e.place + event_size e) t then e ∷ cut t es else prefix_of t e.kind e

-- each begins where the one before it ends
abbrev pub IsRow : ℕ → List Event → Type 0
IsRow at [] = Unit {0}
IsRow at (e ∷ es) = (e.place ≡ at) × IsProper e.width e.kind × IsRow (at + event_size e) es

-- these events reported these marks
pub record AreReported (es : List Event) (ms : List Mark) : Type 0 where
  pub row : IsRow 0 es
  pub marks : marks_in es ≡ ms
