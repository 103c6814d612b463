-- One read, and the state of a call after it.
use Rattle.std.specs.Prelude.{◌≡◌, ℕ, ◌<◌, ◌≤◌, ◌++◌, List, [], ◌∷◌, length, take, Option, Err, Result}
use Rattle.std.specs.Io.KnownBytes.{Consumes, IsAtEnd}
use Rattle.cbor_head.specs.{declared.event.Event.Event, Prelude.AreBytes, declared.reason.Refusal.Refusal}
use Rattle.theory_automaton.specs.{Trace.Mark, Pieces.piece_by}
use Rattle.cbor_machine.specs.Machine.{Represents, IsGiven, IsRefused}
use Rattle.cbor_machine.specs.NextEvent.{Call, machine_call, IsNext, IsNextEvent, IfReported}
use Rattle.cbor_machine.specs.declared.step.Out.TheVariants as outs
use Rattle.cbor_machine.specs.{MachineView.MachineView, Calls.HasRead, Steps.IsStep}
use Rattle.cbor_events.specs.declared.part.ReadOutcome.TheVariants.{Got, End, Failed}
use Rattle.cbor_events.specs.declared.part.PartialEvent.TheVariants.{Reported, Open, Stopped}
use Rattle.cbor_events.specs.declared.part.{ReadOutcome.ReadOutcome, PartialEvent.PartialEvent}

-- what one call of `read`, for at most this number of bytes, put at the start of the buffer
abbrev pub IsAsked : ReadOutcome → ℕ → Option (List ℕ) → Option (List ℕ) → List ℕ → Type 0
IsAsked (Got n) want from to buffer = (n ≤ want) × Consumes from to (take n buffer) × (n ≡ 0 → want ≡ 0)
IsAsked End want from to buffer = (0 < want) × Consumes from to [] × IsAtEnd to
IsAsked Failed want from to buffer = (0 < want) × Consumes from to []

-- what the machine makes of bytes that it expected, if it represented t and ms
abbrev pub IsPartTaken : PartialEvent → MachineView → MachineView → List ℕ → List ℕ → List Mark → Type 0
IsPartTaken (Reported e) old new t bs ms = IsGiven e new t bs ms
IsPartTaken Open old new t bs ms = Represents new (t ++ bs) ms
IsPartTaken (Stopped f) old new t bs ms = IsRefused f new t bs ms × IsStep (outs.Refused f) old new bs

-- What one read into the buffer makes of a call. When the call began, the machine was `was` and the reader held `from`.
abbrev pub IsPartRead : PartialEvent → MachineView → MachineView → Option (List ℕ) → Option (List ℕ) → List ℕ → List ℕ → List ℕ → List Mark → Type 0
IsPartRead (Reported e) was new from to kept buffer t ms = IsNextEvent e (machine_call was new from to kept (piece_by e.kind kept buffer) t ms)
IsPartRead Open was new from to kept buffer t ms = HasRead from to new t ms
IsPartRead (Stopped f) was new from to kept buffer t ms = IsNext (Err f) (machine_call was new from to kept kept t ms)

-- what holds for the event, if one is reported
abbrev pub IfPartReported : PartialEvent → (Event → Type 0) → Type 0
IfPartReported (Reported e) P = P e
IfPartReported _ P = Unit {0}

-- what holds for the refusal, if it is one
abbrev pub IfStopped : PartialEvent → (Refusal → Type 0) → Type 0
IfStopped (Stopped f) P = P f
IfStopped _ P = Unit {0}

-- What the machine consumed by one read: it came from the reader, and is at the start of the buffer.
pub record HasTaken (p : PartialEvent) (old new : MachineView) (want : ℕ) (from to : Option (List ℕ)) (buffer t : List ℕ) (ms : List Mark) : Type 0 where
  pub bytes : List ℕ
  pub some : 0 < length bytes
  pub most : length bytes ≤ want
  pub prefix : bytes ≡ take (length bytes) buffer
  pub consumed : Consumes from to bytes
  pub are_bytes : AreBytes bytes
  pub taken : IsPartTaken p old new t bytes ms

-- nothing was consumed
abbrev pub HasStopped : PartialEvent → MachineView → Type 0
HasStopped (Stopped f) old = f.place ≡ old.taken
HasStopped _ old = ⊥

-- an event that is reported is what the machine consumed, since it represented t and ms
abbrev pub IfGiven : Result (Option Event) Refusal → MachineView → List ℕ → List Mark → Type 0
IfGiven result new t ms = IfReported result (λ e. (bs : List ℕ) × IsGiven e new t bs ms)

-- ---- one byte

-- the byte came from the reader, and the machine consumed it
pub record HasFirst (p : PartialEvent) (old new : MachineView) (from to : Option (List ℕ)) (first : ℕ) (t : List ℕ) (ms : List Mark) : Type 0 where
  pub consumed : Consumes from to (first ∷ [])
  pub are_bytes : AreBytes (first ∷ [])
  pub taken : IsPartTaken p old new t (first ∷ []) ms

-- what a call returns if no payload is open
abbrev pub IsFirstResult : PartialEvent → Call → Type 0
IsFirstResult (Reported e) c = IsNextEvent e c
IsFirstResult Open c = Unit {0}
IsFirstResult (Stopped f) c = IsNext (Err f) c

-- the byte at this offset was consumed: a refusal, if there is one, is after it
abbrev pub IsTakenAt : PartialEvent → ℕ → Type 0
IsTakenAt (Stopped f) place = place < f.place
IsTakenAt p place = Unit {0}
