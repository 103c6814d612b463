-- What is reported of an item that is read from a reader.
use Rattle.std.specs.Prelude.{◌≡◌, ℕ, ◌+◌, ◌<◌, ◌⊎◌, ◌++◌, Bool, true, false, List, [], ◌∷◌, length, Option, Some, None, Result, Ok, Err}
use Rattle.std.specs.Io.KnownBytes.{Consumes, IsAtEnd}
use Rattle.cbor_head.specs.Prelude.{MayFollow, form, bounds, refusal, refused, IsVerdict}
use Rattle.cbor_head.specs.declared.reason.Reason.TheVariants.{Read, Truncated, TooLong}
use Rattle.cbor_head.specs.declared.{reason.Refusal.Refusal, event.Event.Event, event.EventKind.EventKind, event.EventKind.TheVariants.Piece}
use Rattle.theory_automaton.specs.{Trace.Mark, Trace.total, Marks.marks_of, Bytes.IsEventBytes}
use Rattle.cbor_machine.specs.Machine.{Represents, IsComplete, IsWhole, before}
use Rattle.cbor_machine.specs.MachineView.{MachineView}

-- what contracts see of the events of an item: the machine, the bytes of the last piece, and why
-- no more is read
pub record ItemEventsView : Type 0 where
  pub machine : MachineView
  pub piece : List ℕ
  pub refusal : Option Refusal

-- The machine has consumed t and reported ms, and an event ends here: ms are all the events of t.
pub record AgreesBetween (m : MachineView) (t : List ℕ) (ms : List Mark) : Type 0 where
  pub agrees : Represents m t ms
  pub whole : total ms ≡ length t

-- One call for the next event: the machine, what the reader holds and the last piece, before and after the call;
-- and what was consumed and reported before it.
pub record Call : Type 0 where
  pub old : MachineView
  pub new : MachineView
  pub held : Option (List ℕ)
  pub left : Option (List ℕ)
  pub old_piece : List ℕ
  pub new_piece : List ℕ
  pub taken : List ℕ
  pub reported : List Mark

-- the call that led one machine to another
abbrev pub machine_call : MachineView → MachineView → Option (List ℕ) → Option (List ℕ) → List ℕ → List ℕ → List ℕ → List Mark → Call
machine_call from to before_it after_it kept piece t ms = record {
  old = from;
  new = to;
  held = before_it;
  left = after_it;
  old_piece = kept;
  new_piece = piece;
  taken = t;
  reported = ms;
}

-- a call, from what the reader held before and after it, the bytes consumed and the marks reported
abbrev pub call : ItemEventsView → ItemEventsView → Option (List ℕ) → Option (List ℕ) → List ℕ → List Mark → Call
call from to before_it after_it t ms = machine_call from.machine to.machine before_it after_it from.piece to.piece t ms

-- ---- an event

-- if a payload is open, a piece of it is expected, otherwise a head or a break
abbrev pub IsExpected : Bool → EventKind → Type 0
IsExpected true (Piece n) = Unit {0}
IsExpected true kind = ⊥
IsExpected false (Piece n) = ⊥
IsExpected false kind = Unit {0}

-- a piece becomes the last piece, and any other event leaves the last piece unchanged
abbrev pub IsKept : EventKind → List ℕ → List ℕ → List ℕ → Type 0
IsKept (Piece n) kept piece bytes = piece ≡ bytes
IsKept kind kept piece bytes = piece ≡ kept

-- the next event
pub record IsNextEvent (e : Event) (c : Call) : Type 0 where
  pub unfinished : ¬ IsComplete c.old
  pub expected : IsExpected c.old.in_payload e.kind
  -- its bytes, which were read from the reader; those of a head follow from its type, width and argument
  pub bytes : List ℕ
  pub consumed : Consumes c.held c.left bytes
  pub are : IsEventBytes c.reported e.width e.kind bytes
  pub piece_is : IsKept e.kind c.old_piece c.new_piece bytes
  -- the offset of its first byte
  pub place : e.place ≡ length c.taken
  pub agrees : AgreesBetween c.new (c.taken ++ bytes) (c.reported ++ marks_of e.width e.kind)

-- all events were reported, and nothing is read
pub record IsEnd (c : Call) : Type 0 where
  pub complete : IsComplete c.old
  pub consumed : Consumes c.held c.left []
  pub same : c.new_piece ≡ c.old_piece
  pub agrees : AgreesBetween c.new c.taken c.reported

-- ---- a refusal

-- The reader ended or failed within the item, before the byte limit. The verdict on the bytes consumed, as a whole
-- input, is Truncated.
pub record IsCut (f : Refusal) (c : Call) : Type 0 where
  pub bytes : List ℕ
  pub consumed : Consumes c.held c.left bytes
  pub reason : (f.reason ≡ Read) ⊎ ((f.reason ≡ Truncated) × IsAtEnd c.left)
  pub is : f ≡ refusal f.reason (length (c.taken ++ bytes)) (length (c.taken ++ bytes))
  pub verdict : IsVerdict (bounds c.new.depth c.new.bytes) form (c.taken ++ bytes)
      (refused (refusal Truncated (length (c.taken ++ bytes)) (length (c.taken ++ bytes))))
  pub short : length (c.taken ++ bytes) < c.new.bytes
  pub agrees : Represents c.new (c.taken ++ bytes) c.reported
  pub unfinished : ¬ IsWhole c.new.depth (c.taken ++ bytes)

-- the byte limit is reached within the item
pub record IsTooLong (f : Refusal) (c : Call) : Type 0 where
  pub bytes : List ℕ
  pub consumed : Consumes c.held c.left bytes
  pub is : f ≡ refusal TooLong c.new.bytes c.new.bytes
  pub full : length (c.taken ++ bytes) ≡ c.new.bytes
  -- for any bytes after these
  pub verdict : (more : List ℕ)
      → IsVerdict (bounds c.new.depth c.new.bytes) form ((c.taken ++ bytes) ++ more) (refused f)
  pub agrees : Represents (before c.new (length (c.taken ++ bytes))) (c.taken ++ bytes) c.reported
  pub unfinished : ¬ IsWhole c.new.depth (c.taken ++ bytes)

-- a byte that may not follow the bytes before it
pub record HasFormError (f : Refusal) (c : Call) : Type 0 where
  pub bytes : List ℕ
  pub byte : ℕ
  pub consumed : Consumes c.held c.left (bytes ++ byte ∷ [])
  pub is : f ≡ refusal f.reason (length (c.taken ++ bytes)) (length (c.taken ++ bytes) + 1)
  pub cannot_follow : ¬ MayFollow c.new.depth (c.taken ++ bytes) byte
  -- for any bytes after these
  pub verdict : (more : List ℕ)
      → IsVerdict (bounds c.new.depth c.new.bytes) form ((c.taken ++ bytes ++ byte ∷ []) ++ more) (refused f)
  -- the machine before the byte that was refused
  pub agrees : Represents (before c.new (length (c.taken ++ bytes))) (c.taken ++ bytes) c.reported
  pub unfinished : ¬ IsWhole c.new.depth (c.taken ++ bytes)

-- what holds for the event, if one is reported
abbrev pub IfReported : Result (Option Event) Refusal → (Event → Type 0) → Type 0
IfReported (Ok (Some e)) P = P e
IfReported _ P = Unit {0}

-- what is returned if the last event was complete
abbrev pub IsNext : Result (Option Event) Refusal → Call → Type 0
IsNext (Ok (Some e)) c = IsNextEvent e c
IsNext (Ok None) c = IsEnd c
IsNext (Err f) c = ¬ IsComplete c.old × (IsCut f c ⊎ IsTooLong f c ⊎ HasFormError f c)
