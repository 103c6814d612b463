-- The machine's fields as a state of the automaton, and what its functions preserve.
use Rattle.std.specs.Prelude.{◌≡◌, ℕ, suc, ◌⊎◌, ◌+◌, ◌*◌, ◌^◌, ◌≤◌, Bool, List, [], map, reverse}
use Rattle.cbor_head.specs.declared.major.Major.TheVariants as majors
use Rattle.cbor_head.specs.declared.major.Major.{Major}
use Rattle.theory_automaton.specs.Automaton as automaton
use Rattle.theory_automaton.specs.Marks.{mark_of, times, IsDefinite, IsProper}
use Rattle.theory_automaton.specs.{Automaton.State, Reasons.IsFormReason}
use Rattle.cbor_machine.specs.declared.frame.Frame.TheVariants as frames
use Rattle.cbor_machine.specs.declared.opening.ArgumentType.TheVariants as numbered
use Rattle.cbor_machine.specs.declared.opening.Opening.TheVariants.{Direct as DirectOpening, Long, IndefiniteBytes, IndefiniteText, IndefiniteArray, IndefiniteMap, Simple, LongSimple, Break, Bad}
use Rattle.cbor_machine.specs.declared.position.Position.TheVariants.{Item, Head, SimpleNumber, Payload, Chunks, Done}
use Rattle.cbor_machine.specs.declared.take_byte.Next.TheVariants.{Refuses, Goes, Reports}
use Rattle.cbor_machine.specs.declared.{frame.Frame.Frame, opening.ArgumentType.ArgumentType, opening.Opening.Opening, position.Position.Position}
use Rattle.cbor_machine.specs.declared.take_byte.Next.{Next}

abbrev pub major_of : ArgumentType → Major
major_of numbered.Unsigned = majors.Unsigned
major_of numbered.Negative = majors.Negative
major_of numbered.Bytes = majors.Bytes
major_of numbered.Text = majors.Text
major_of numbered.Array = majors.Array
major_of numbered.Map = majors.Map
major_of numbered.Tag = majors.Tag

-- the members after the one that is expected
abbrev pub frame_of : Frame → automaton.Frame
frame_of (frames.Array n) = automaton.counted n
frame_of frames.IndefiniteArray = automaton.indefinite_array
frame_of (frames.Map n Bool.true) = automaton.counted (n + n)
frame_of (frames.Map n Bool.false) = automaton.counted (suc (n + n))
frame_of (frames.IndefiniteMap expected) = automaton.indefinite_map expected
frame_of frames.Tag = automaton.counted 0

-- the innermost first
abbrev pub frames_of : List Frame → List automaton.Frame
frames_of fs = map frame_of (reverse fs)

-- where the next byte belongs
abbrev pub state_of : Position → List Frame → State
state_of Item fs = automaton.at_item (frames_of fs)
state_of (Head chunk kind width left argument) fs = automaton.in_head chunk (major_of kind) width left argument (frames_of fs)
state_of SimpleNumber fs = automaton.in_simple (frames_of fs)
state_of (Payload chunk kind left) fs = automaton.in_payload chunk (major_of kind) left (frames_of fs)
state_of (Chunks kind) fs = automaton.in_chunks (major_of kind) (frames_of fs)
state_of Done fs = automaton.done

-- what a first byte begins
abbrev pub opened : Opening → automaton.Opening
opened (DirectOpening kind n) = automaton.direct (major_of kind) n
opened (Long kind width) = automaton.long (major_of kind) width
opened IndefiniteBytes = automaton.indefinite_string majors.Bytes
opened IndefiniteText = automaton.indefinite_string majors.Text
opened IndefiniteArray = automaton.indefinite_container majors.Array automaton.indefinite_array
opened IndefiniteMap = automaton.indefinite_container majors.Map (automaton.indefinite_map Bool.false)
opened (Simple n) = automaton.direct majors.Simple n
opened LongSimple = automaton.long_simple
opened Break = automaton.breaks
opened Bad = automaton.bad

-- the result of a byte, as that of the automaton
abbrev pub next_of : Next → List Frame → automaton.Next
next_of (Refuses r) fs = automaton.refuses r
next_of (Goes position) fs = automaton.goes (state_of position fs)
next_of (Reports w kind position) fs = automaton.reports (mark_of w kind) (state_of position fs)

-- The argument has space for the bytes that are left, and a container for its frame; after the item nothing is open.
abbrev pub IsFit : ℕ → List Frame → Position → Type 0
IsFit depth fs (Head chunk kind width left argument) =
    ((argument + 1) * 256 ^ (left + 1) ≤ 2 ^ 64) × ((chunk ≡ Bool.true) ⊎ (automaton.has_space depth (frames_of fs) (major_of kind) ≡ Bool.true)) × IsDefinite width
IsFit depth fs Done = fs ≡ []
IsFit depth fs _ = Unit {0}

abbrev pub IsNextFit : ℕ → List Frame → Next → Type 0
IsNextFit depth fs (Refuses r) = Unit {0}
IsNextFit depth fs (Goes position) = IsFit depth fs position
IsNextFit depth fs (Reports w kind position) = IsFit depth fs position

-- not within a head
abbrev pub IsSettled : List Frame → Position → Type 0
IsSettled fs (Head chunk kind width left argument) = ⊥
IsSettled fs SimpleNumber = ⊥
IsSettled fs Done = fs ≡ []
IsSettled fs _ = Unit {0}

abbrev pub IsNextSettled : List Frame → Next → Type 0
IsNextSettled fs (Refuses r) = Unit {0}
IsNextSettled fs (Goes position) = IsSettled fs position
IsNextSettled fs (Reports w kind position) = IsSettled fs position

-- an event leaves no head open
abbrev pub IsReportedSettled : List Frame → Next → Type 0
IsReportedSettled fs (Reports w kind position) = IsSettled fs position
IsReportedSettled fs _ = Unit {0}

-- a byte that completes no event leaves a head open
abbrev pub IsNextOpen : List Frame → Next → Type 0
IsNextOpen fs (Goes position) = ¬ IsSettled fs position
IsNextOpen fs _ = Unit {0}

abbrev pub IsRefusal : Next → Type 0
IsRefusal (Refuses r) = Unit {0}
IsRefusal _ = ⊥

abbrev pub IsNextProper : Next → Type 0
IsNextProper (Reports w kind position) = IsProper w kind
IsNextProper _ = Unit {0}

abbrev pub IsOpeningDefinite : Opening → Type 0
IsOpeningDefinite (Long kind width) = IsDefinite width
IsOpeningDefinite _ = Unit {0}

-- one byte reports one mark
abbrev pub IsOnce : Next → Type 0
IsOnce (Reports w kind position) = times kind ≡ 1
IsOnce _ = Unit {0}

-- the number of bytes that are missing from the open head, or from the next one
abbrev pub head_left : Position → ℕ
head_left (Head chunk kind width left argument) = left + 1
head_left (Payload chunk kind left) = 0
head_left Done = 0
head_left _ = 1

abbrev pub next_left : Next → ℕ
next_left (Goes position) = head_left position
next_left _ = 0

-- the number of bytes that are missing from what is open, a payload too: whatever they are, all are used
abbrev pub wanted_at : Position → ℕ
wanted_at (Payload chunk kind left) = left + 1
wanted_at position = head_left position

-- an item is expected
abbrev pub is_at_item : Position → Bool
is_at_item Item = Bool.true
is_at_item _ = Bool.false

-- a payload is open
abbrev pub is_in_payload : Position → Bool
is_in_payload (Payload chunk kind left) = Bool.true
is_in_payload _ = Bool.false

-- the item is complete
abbrev pub is_done : Position → Bool
is_done Done = Bool.true
is_done _ = Bool.false

-- the reason, if the byte is not allowed here
abbrev pub IsNextReason : Next → Type 0
IsNextReason (Refuses r) = IsFormReason r
IsNextReason _ = Unit {0}

-- what leads a machine from one step to the next: where the next byte belongs, and the open containers
pub record Inner : Type 0 where
  pub position : Position
  pub frames : List Frame
