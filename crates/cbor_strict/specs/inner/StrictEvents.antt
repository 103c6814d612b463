-- What is reported of the item at the start of an input, event by event, by the strict rules.
use Rattle.std.specs.Prelude.{◌≡◌, ℕ, ◌<◌, ◌≤◌, ◌++◌, List, [], length, Option, Some, None, Result, MatchResult, IfSome, IsTrue}
use Rattle.cbor_head.specs.Prelude.{strict, Bounds, AreBounds, bounds, with_keys}
use Rattle.cbor_head.specs.declared.{event.Event.Event, keys.Keys.Keys, order.KeyOrder.KeyOrder, reason.Reason.TheVariants.Memory, reason.Refusal.Refusal}
use Rattle.theory_automaton.specs.Trace.{Mark}
use Rattle.cbor_machine.specs.NextEvent.{ItemEventsView, AgreesBetween, IsNextEvent, IsEnd, call}
use Rattle.cbor_machine.specs.{MachineView.MachineView, Machine.IsComplete}
use Rattle.theory_verdicts.specs.{Kinds.KeepsToKinds, Refusals.IsReaderReason, RefusedAfter.IsRefusedAfter}
use Rattle.cbor_strict.specs.{declared.open_items.OpenItems.OpenItems, inner.LastKeys.view_value, inner.OpenItems.Agrees, inner.OpenItems.IsOver}

-- some bytes were consumed, and their keys are of these kinds
pub record AgreesWithSome (keys : Keys) (v : OpenItems) (e : ItemEventsView) : Type 0 where
  pub b : Bounds
  pub asks : b.keys ≡ keys
  pub t : List ℕ
  pub agrees : Agrees v b e t
  pub keeps : KeepsToKinds b (strict v.order) t

-- this event was reported: its bytes are consumed, and nothing read has a complaint
pub record GoesOn (v : OpenItems) (b : Bounds) (e after : ItemEventsView) (t : List ℕ) (from to : Option (List ℕ)) (event : Event) : Type 0 where
  pub marks : List Mark
  pub between : AgreesBetween e.machine t marks
  pub next : IsNextEvent event (call e after from to t marks)
  pub some : 0 < length next.bytes
  pub agrees : Agrees v b after (t ++ next.bytes)
  pub keeps : KeepsToKinds b (strict v.order) (t ++ next.bytes)

-- the item is complete, and nothing was read
pub record HasCome (v : OpenItems) (b : Bounds) (e after : ItemEventsView) (t : List ℕ) (from to : Option (List ℕ)) : Type 0 where
  pub marks : List Mark
  pub between : AgreesBetween e.machine t marks
  pub end : IsEnd (call e after from to t marks)
  pub over : IsOver v b after t
  pub keeps : KeepsToKinds b (strict v.order) t

abbrev pub IsStep : Option Event → OpenItems → Bounds → ItemEventsView → ItemEventsView → List ℕ → Option (List ℕ) → Option (List ℕ) → Type 0
IsStep (Some event) v b e after t from to = GoesOn v b e after t from to event
IsStep None v b e after t from to = HasCome v b e after t from to

abbrev pub ReturnsStep : Keys → OpenItems → OpenItems → ItemEventsView → ItemEventsView → Option (List ℕ) → Option (List ℕ) → Result (Option Event) Refusal → Type 0
ReturnsStep keys old new e after from to result =
    (b : Bounds) (t : List ℕ) → b.keys ≡ keys → Agrees old b e t → KeepsToKinds b (strict old.order) t
    → MatchResult result (λ reported. IsStep reported new b e after t from to) (λ f. ¬ IsComplete e.machine × IsRefusedAfter (strict old.order) b t from to f)

-- there are at most one frame and one span for each open container, and no more bytes are stored than were read
pub record IsLittle (v : OpenItems) (e : ItemEventsView) : Type 0 where
  pub levels : length (view_value v.keys).levels ≤ e.machine.open_count
  pub spans : length (view_value v.keys).spans ≤ e.machine.open_count
  pub kept : length (view_value v.keys).bytes ≤ e.machine.taken

-- ---- the state that one event passes to the next

pub record Inner : Type 0 where
  pub events : ItemEventsView
  pub items : OpenItems

abbrev pub bounds_of : MachineView → Keys → Bounds
bounds_of m keys = with_keys (bounds m.depth m.bytes) keys

-- The state between two calls: bounds on what was read and is stored, and, unless there was a refusal, the bytes
-- that were consumed.
pub record AreWithinBounds (events : ItemEventsView) (items : OpenItems) (keys : Keys) (refusal : Option Refusal) : Type 0 where
  pub agrees : refusal ≡ None → AgreesWithSome keys items events
  pub stopped : IfSome refusal (λ f. (f.read ≡ events.machine.taken)
      × IsReaderReason (bounds_of events.machine keys) (strict items.order) f.reason
      × (length (view_value items.keys).spans ≡ 0) × (length (view_value items.keys).bytes ≡ 0))
  pub memory : IfSome refusal (λ f. f.reason ≡ Memory → IsTrue items.memory)
  pub limits : AreBounds (bounds_of events.machine keys)
  pub within : events.machine.open_count ≤ events.machine.depth
  pub limited : events.machine.taken ≤ events.machine.bytes
  pub little : IsLittle items events

-- this is the state after t
pub record IsInner (inner : Inner) (m : MachineView) (order : KeyOrder) (keys : Keys) (t : List ℕ) : Type 0 where
  pub machine_is : inner.events.machine ≡ m
  pub order_is : inner.items.order ≡ order
  pub agrees : Agrees inner.items (bounds_of m keys) inner.events t
  pub keeps : KeepsToKinds (bounds_of m keys) (strict order) t

-- the bytes of the last piece, if nothing was refused
abbrev pub piece_unless : Option Refusal → List ℕ → List ℕ
piece_unless None piece = piece
piece_unless (Some f) piece = []
