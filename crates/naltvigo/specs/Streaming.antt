-- What a machine reports of an item, as C has it.
use Rattle.std.specs.Prelude.{ℕ, ◌≡◌, ◌<◌, ◌⊎◌, ◌++◌, ◌∷◌, List, [], Some, IfSome}
use Rattle.cbor_head.specs.declared.width.Width.TheVariants as widths
use Rattle.cbor_head.specs.declared.event.EventKind.TheVariants as kinds
use Rattle.cbor_head.specs.declared.{width.Width.Width, event.Event.Event, event.EventKind.EventKind}
use Rattle.theory_automaton.specs.{Marks.count_of, Trace.Mark}
use Rattle.cbor_machine.specs.Machine.{Represents, KeepsLimits, IsResult, IsComplete, wanted}
use Rattle.cbor_machine.specs.declared.step.Out.TheVariants as outs
use Rattle.cbor_machine.specs.{MachineView.MachineView, declared.step.Out.Out, Saved.Holds, declared.machine.saved.SavedMachine.SavedMachine}
use Rattle.naltvigo.specs.{Reported.IsReported, declared.status.NaltvigoRefusal.NaltvigoRefusal, declared.streaming.NaltvigoEvent.NaltvigoEvent}

-- the number of a kind: the major type, and three more
abbrev pub kind_number : EventKind → ℕ
kind_number (kinds.Unsigned n) = 0
kind_number (kinds.Negative n) = 1
kind_number (kinds.Bytes n) = 2
kind_number (kinds.Text n) = 3
kind_number (kinds.Array n) = 4
kind_number (kinds.Map n) = 5
kind_number (kinds.Tag n) = 6
kind_number (kinds.Simple n) = 7
kind_number (kinds.Chunk n) = 8
kind_number (kinds.Piece n) = 9
kind_number kinds.End = 10

-- the argument or the count, or how many bytes a piece has; 0 where there is none
abbrev pub number_of : EventKind → ℕ
number_of (kinds.Unsigned n) = n
number_of (kinds.Negative n) = n
number_of (kinds.Bytes n) = count_of n
number_of (kinds.Text n) = count_of n
number_of (kinds.Array n) = count_of n
number_of (kinds.Map n) = count_of n
number_of (kinds.Tag n) = n
number_of (kinds.Simple n) = n
number_of (kinds.Chunk n) = n
number_of (kinds.Piece n) = n
number_of kinds.End = 0

-- how many bytes the argument has; 255 for an indefinite length and a break
abbrev pub width_number : Width → ℕ
width_number widths.Direct = 0
width_number widths.One = 1
width_number widths.Two = 2
width_number widths.Four = 4
width_number widths.Eight = 8
width_number widths.Indefinite = 255

-- an event
pub record IsReportedEvent (e : Event) (c : NaltvigoEvent) : Type 0 where
  pub offset : c.offset ≡ e.place
  pub number : c.number ≡ number_of e.kind
  pub kind : c.kind ≡ kind_number e.kind
  pub width : c.width ≡ width_number e.width

-- these events
abbrev pub AreReportedEvents : List Event → List NaltvigoEvent → Type 0
AreReportedEvents [] [] = Unit {0}
AreReportedEvents (e ∷ es) (c ∷ cs) = IsReportedEvent e c × AreReportedEvents es cs
AreReportedEvents _ _ = ⊥

-- why no further one is reported, of the machine after it: 8 more bytes are expected, 0 the item is complete, 1 it is refused, and stays so
abbrev pub IsReportedEnd : Out → MachineView → ℕ → NaltvigoRefusal → Type 0
IsReportedEnd outs.More new status r = (status ≡ 8) × (0 < wanted new)
IsReportedEnd (outs.Event event) new status r = ⊥
IsReportedEnd outs.Done new status r = (status ≡ 0) × IsComplete new
IsReportedEnd (outs.Refused refusal) new status r = (status ≡ 1) × IsReported refusal r × (new.refusal ≡ Some refusal)

-- what a step returns of the last bytes, for all bytes and marks that the machine represented before these
abbrev pub HasReturned : Out → MachineView → MachineView → List ℕ → Type 0
HasReturned out old new last = (t : List ℕ) (ms : List Mark) → Represents old t ms → IsResult out new t last ms

-- the machine used these bytes, and gave these events, one after another
pub data Gives (from : MachineView) : MachineView → List ℕ → List Event → Type 0 where
  none : Gives from from [] []
  one_more : (mid to : MachineView) (bs last : List ℕ) (es : List Event) (e : Event) → Gives from mid bs es → HasReturned (outs.Event e) mid to last
      → Gives from to (bs ++ last) (es ++ e ∷ [])

-- It used these bytes and gave these events, and then no further one: 7 there is no space for it, or as above.
pub record ReportsOn (old new : MachineView) (bs : List ℕ) (status : ℕ) (events : List NaltvigoEvent) (r : NaltvigoRefusal) : Type 0 where
  pub limits : KeepsLimits old new ⊎ (new ≡ old)
  pub given : List Event
  pub reported : AreReportedEvents given events
  pub mid : MachineView
  pub prefix : List ℕ
  pub last : List ℕ
  pub splits : bs ≡ prefix ++ last
  pub gives : Gives old mid prefix given
  pub ends : ((status ≡ 7) × (last ≡ []) × (new ≡ mid)) ⊎ ((out : Out) × IsReportedEnd out new status r × HasReturned out mid new last)

-- Where the item was complete, or refused, the call used nothing and returned the same.
pub record StaysSo (old new : SavedMachine) (used status : ℕ) (r : NaltvigoRefusal) : Type 0 where
  pub complete : (m : MachineView) → Holds old m → IsComplete m → (status ≡ 0) × (used ≡ 0) × Holds new m
  pub refused : (m : MachineView) → Holds old m → IfSome m.refusal (λ f. (status ≡ 1) × IsReported f r × (used ≡ 0) × Holds new m)
