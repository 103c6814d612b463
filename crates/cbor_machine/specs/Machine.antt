-- What a machine represents: the bytes consumed so far, and the marks reported.
use Rattle.std.specs.Prelude.{true, ◌≡◌, ◌↔◌, ◌⊎◌, ℕ, ◌-◌, ◌≤◌, ◌++◌, min, List, length, take, drop, Option, Some, None, IfSome}
use Rattle.cbor_head.specs.Prelude.{Bounds, bounds, AreBytes, Spelling, IsItem, IsBeginning, IsLongestBeginning, IsFormError}
use Rattle.cbor_head.specs.declared.{event.Event.Event, reason.Refusal.Refusal}
use Rattle.theory_automaton.specs.Trace.{Mark, total, trace, within}
use Rattle.theory_automaton.specs.{Open.open_after, Marks.marks_of, Marks.times, Bytes.IsEventBytes}
use Rattle.cbor_machine.specs.declared.step.Out.TheVariants as outs
use Rattle.cbor_machine.specs.{MachineView.MachineView, inner.Machine.IsInner, declared.step.Step.Step, declared.step.Out.Out}

-- the item is complete, and its last event was reported
abbrev pub IsComplete : MachineView → Type 0
IsComplete m = (m.complete ≡ true) × (m.refusal ≡ None)

-- how many of the next bytes the machine uses, whatever they are
abbrev pub wanted_within : Option Refusal → ℕ → ℕ
wanted_within None n = n
wanted_within (Some r) n = 0

-- how many of the next bytes it uses, whatever they are: those expected, within the byte limit; none after a refusal
abbrev pub wanted : MachineView → ℕ
wanted m = wanted_within m.refusal (min (m.bytes - m.taken) m.expected)

-- no byte is expected: the item is complete, or the byte limit is reached
abbrev pub IsIdle : MachineView → Type 0
IsIdle m = IsComplete m ⊎ (m.taken ≡ m.bytes)

-- The limits are unchanged and still hold.
pub record KeepsLimits (old new : MachineView) : Type 0 where
  pub depth : new.depth ≡ old.depth
  pub bytes : new.bytes ≡ old.bytes
  pub open_count : new.open_count ≤ new.depth
  pub taken : new.taken ≤ new.bytes

-- some item has these bytes
abbrev pub IsWhole : ℕ → List ℕ → Type 0
IsWhole d t = (s : Spelling) × IsItem d s t

-- The machine has consumed t, and reported ms. It stores neither.
pub record Represents (m : MachineView) (t : List ℕ) (ms : List Mark) : Type 0 where
  -- t is always a beginning
  pub beginning : IsBeginning m.depth t
  -- what was reported is what ends within t, of each item that starts with t
  pub reported : (s : Spelling) (rest : List ℕ) → IsItem m.depth s (t ++ rest)
      → ms ≡ within (length t) (trace s)
  -- it is complete exactly if t is a whole item
  pub complete : IsComplete m ↔ IsWhole m.depth t
  -- the open containers are those of each such item, and at most the depth
  pub counted : (s : Spelling) (rest : List ℕ) → IsItem m.depth s (t ++ rest)
      → m.open_count ≡ open_after (length t) s
  pub bounded : m.open_count ≤ m.depth
  pub taken : m.taken ≡ length t
  pub limited : m.taken ≤ m.bytes
  -- where the next event begins
  pub next : m.reported ≡ total ms
  pub live : m.refusal ≡ None
  pub are_bytes : AreBytes t
  -- the inner state is the one after t
  pub inner : IsInner m t ms

-- an event is complete, of a machine that represented t and ms and has now used bs
pub record IsGiven (e : Event) (m : MachineView) (t bs : List ℕ) (ms : List Mark) : Type 0 where
  pub agrees : Represents m (t ++ bs) (ms ++ marks_of e.width e.kind)
  -- it begins where what was reported before it ends
  pub place : e.place ≡ total ms
  -- and ends here
  pub ends : total (ms ++ marks_of e.width e.kind) ≡ length (t ++ bs)
  -- the bytes consumed since are its head, its part of a payload, or the break
  pub bytes : IsEventBytes ms e.width e.kind (drop e.place (t ++ bs))

-- the longest beginning of the input is p, and after it the form has this error
pub record FormErrorAfter (limits : Bounds) (input p : List ℕ) (r : Refusal) : Type 0 where
  pub longest : IsLongestBeginning limits.depth (take limits.bytes input) p
  pub error : IsFormError limits p longest.rest r

-- the machine before it refused anything, when it had consumed this number of bytes
abbrev pub before : MachineView → ℕ → MachineView
before m n = record m { taken = n; refusal = None }

-- the item is refused
pub record IsRefused (r : Refusal) (m : MachineView) (t bs : List ℕ) (ms : List Mark) : Type 0 where
  -- what was consumed of bs before the byte that is refused, if there is one
  pub prefix : List ℕ
  pub following : List ℕ
  pub splits : bs ≡ prefix ++ following
  pub agrees : Represents (before m (length (t ++ prefix))) (t ++ prefix) ms
  pub unfinished : ¬ IsWhole m.depth (t ++ prefix)
  -- for any bytes after these
  pub error : (more : List ℕ)
      → FormErrorAfter (bounds m.depth m.bytes) ((t ++ bs) ++ more) (t ++ prefix) r

-- what a step returns, of a machine that represented t and ms and has now used bs
abbrev pub IsResult : Out → MachineView → List ℕ → List ℕ → List Mark → Type 0
IsResult outs.More m t bs ms = Represents m (t ++ bs) ms
IsResult (outs.Event e) m t bs ms = IsGiven e m t bs ms
IsResult outs.Done m t bs ms = Represents m (t ++ bs) ms
IsResult (outs.Refused r) m t bs ms = IsRefused r m t bs ms

-- an event is reported
abbrev pub IsEvent : Out → Type 0
IsEvent (outs.Event e) = Unit {0}
IsEvent _ = ⊥

-- more bytes are needed
abbrev pub IsMore : Out → Type 0
IsMore outs.More = Unit {0}
IsMore _ = ⊥

-- the item is reported to be complete
abbrev pub IsDone : Out → Type 0
IsDone outs.Done = Unit {0}
IsDone _ = ⊥

-- the number of marks of the event: the bytes of a piece, 1 for any other event
abbrev pub piece_of : Out → ℕ
piece_of (outs.Event e) = times e.kind
piece_of _ = 0

-- what holds for the refusal, if it is one
abbrev pub IfRefused : Out → (Refusal → Type 0) → Type 0
IfRefused (outs.Refused r) P = P r
IfRefused _ P = Unit {0}

-- Once the item is complete, or refused, a step uses nothing and returns the same.
pub record Stays (step : Step) (old new : MachineView) : Type 0 where
  pub done : IsDone step.out ↔ IsComplete old
  pub complete : IsComplete old → (step.used ≡ 0) × (new ≡ old)
  pub refused : IfSome old.refusal
      (λ r. (step.out ≡ outs.Refused r) × (step.used ≡ 0) × (new ≡ old))
