-- The marks of an event, and which width it has (RFC 8949, section 3).
use Rattle.std.specs.Prelude.{◌≡◌, ℕ, ◌<◌, List, replicate, Option, Some, None}
use Rattle.cbor_head.specs.declared.major.Major.TheVariants as majors
use Rattle.cbor_head.specs.declared.event.EventKind.TheVariants as kinds
use Rattle.cbor_head.specs.declared.{width.Width.Width, width.Width.TheVariants.Direct, width.Width.TheVariants.Indefinite, event.EventKind.EventKind}
use Rattle.theory_automaton.specs.Trace.{Mark, a_head, a_chunk, a_byte, a_break}

-- a count, or 0 if there is none
abbrev pub count_of : Option ℕ → ℕ
count_of (Some n) = n
count_of None = 0

-- the mark of an event; of a piece, that of each of its bytes
abbrev pub mark_of : Width → EventKind → Mark
mark_of w (kinds.Unsigned n) = a_head majors.Unsigned w n
mark_of w (kinds.Negative n) = a_head majors.Negative w n
mark_of w (kinds.Simple n) = a_head majors.Simple w n
mark_of w (kinds.Bytes n) = a_head majors.Bytes w (count_of n)
mark_of w (kinds.Text n) = a_head majors.Text w (count_of n)
mark_of w (kinds.Chunk n) = a_chunk w n
mark_of w (kinds.Piece n) = a_byte
mark_of w (kinds.Array n) = a_head majors.Array w (count_of n)
mark_of w (kinds.Map n) = a_head majors.Map w (count_of n)
mark_of w (kinds.Tag n) = a_head majors.Tag w n
mark_of w kinds.End = a_break

-- how often that mark occurs
abbrev pub times : EventKind → ℕ
times (kinds.Piece n) = n
times _ = 1

-- the marks of an event
abbrev pub marks_of : Width → EventKind → List Mark
marks_of w kind = replicate (times kind) (mark_of w kind)

-- the width of a head with an argument
abbrev pub IsDefinite : Width → Type 0
IsDefinite Indefinite = ⊥
IsDefinite w = Unit {0}

-- the width of an event: Indefinite for a break or an indefinite length, Direct for a piece, which has
-- at least one byte
abbrev pub IsProper : Width → EventKind → Type 0
IsProper w (kinds.Bytes None) = w ≡ Indefinite
IsProper w (kinds.Text None) = w ≡ Indefinite
IsProper w (kinds.Array None) = w ≡ Indefinite
IsProper w (kinds.Map None) = w ≡ Indefinite
IsProper w kinds.End = w ≡ Indefinite
IsProper w (kinds.Piece n) = (w ≡ Direct) × (0 < n)
IsProper w kind = IsDefinite w
