-- What the strict reader reports of the item at the start of an input, event by event (RFC 8949, section 4.2).
use Rattle.std.specs.Prelude.{◌≡◌, ℕ, ◌<◌, ◌≤◌, ◌⊎◌, ◌++◌, Bool, List, length, Option, Some, None, Result, Ok, Err, IfSome}
use Rattle.std.specs.Io.KnownBytes.{Consumes}
use Rattle.cbor_head.specs.Prelude.{Bounds, bounds, with_keys, Spelling, strict}
use Rattle.cbor_head.specs.{Laws.StartsWith, Laws.IsWithout, declared.keys.Keys.Keys, declared.order.KeyOrder.KeyOrder, declared.reason.Reason.Reason}
use Rattle.cbor_head.specs.declared.{reason.Reason.TheVariants.Memory, reason.Refusal.Refusal, width.Width.Width, event.Event.Event, event.EventKind.EventKind}
use Rattle.cbor_head.specs.declared.event.EventKind.TheVariants.{Piece, Map}
use Rattle.theory_automaton.specs.{Bytes.IsEventBytes, Trace.Mark, Marks.marks_of}
use Rattle.cbor_machine.specs.NextEvent.{AgreesBetween, Call, machine_call, IsNextEvent, IsEnd, IsCut, IsTooLong, HasFormError}
use Rattle.cbor_machine.specs.{MachineView.MachineView, Machine.IsComplete, NextKey.IsOtherKey}
use Rattle.theory_verdicts.specs.{Readers.IsUnread, Refusals.IsComplaintReason}
use Rattle.cbor_strict.specs.{KeptKeys.open_maps, KeptKeys.key_bytes, inner.StrictEvents.Inner, inner.StrictEvents.IsInner}

-- what contracts see of the events of an item by the strict rules: how far the form was read, the bytes of the last piece, what
-- is stored, and why no more is read
pub record StrictEventsView : Type 0 where
  pub machine : MachineView
  pub piece : List ℕ
  pub order : KeyOrder
  -- which kinds of keys are judged
  pub keys : Keys
  -- how many open maps have a last key stored, and how many bytes of keys are stored
  pub spans : ℕ
  pub kept : ℕ
  pub refusal : Option Refusal
  -- whether a request for memory was refused for the item
  pub refused : Bool
  -- the state that one event passes to the next; no public clause opens it
  pub inner : Inner

-- the limits on the item
abbrev pub limits_of : StrictEventsView → Bounds
limits_of v = with_keys (bounds v.machine.depth v.machine.bytes) v.keys

-- the reader, and the events that were read from it
pub record StrictReaderView (R : Type 0) : Type 0 where
  pub reader : R
  pub events : StrictEventsView

-- All events of t were reported, with these marks, and nothing in t has a complaint.
pub record AgreesStrictly (v : StrictEventsView) (t : List ℕ) (ms : List Mark) : Type 0 where
  pub between : AgreesBetween v.machine t ms
  -- no complaint ends within t, of any item that starts with t
  pub clean : (s : Spelling) → StartsWith v.machine.depth s t → IsWithout (limits_of v) (strict v.order) s (length t)
  -- the counts are those of each such item: a span for each open map, and the bytes of keys that may still be compared
  pub spans : (s : Spelling) → StartsWith v.machine.depth s t → v.spans ≡ open_maps (length t) s
  pub kept : (s : Spelling) → StartsWith v.machine.depth s t → v.kept ≡ key_bytes (length t) s
  pub live : v.refusal ≡ None
  -- the inner state is the one after t
  pub inner : IsInner v.inner v.machine v.order v.keys t

-- One call for the next event: the state and what the reader holds, before and after; and the bytes and marks before.
pub record StrictCall : Type 0 where
  pub old : StrictEventsView
  pub new : StrictEventsView
  pub held : Option (List ℕ)
  pub left : Option (List ℕ)
  pub taken : List ℕ
  pub reported : List Mark

-- a call, with what the reader held before it and after it, the bytes consumed and the marks reported before it
abbrev pub strict_call : StrictEventsView → StrictEventsView → Option (List ℕ) → Option (List ℕ) → List ℕ → List Mark → StrictCall
strict_call from to before_it after_it t ms = record { old = from; new = to; held = before_it; left = after_it; taken = t; reported = ms }

-- the same call, seen as one for an event by form alone
abbrev pub form_call : StrictCall → Call
form_call c = machine_call c.old.machine c.new.machine c.held c.left c.old.piece c.new.piece c.taken c.reported

-- the next event, with which no complaint ends
pub record IsNextClean (e : Event) (c : StrictCall) : Type 0 where
  pub event : IsNextEvent e (form_call c)
  pub agrees : AgreesStrictly c.new (c.taken ++ event.bytes) (c.reported ++ marks_of e.width e.kind)

-- all events were reported, and nothing was read
pub record IsCleanEnd (c : StrictCall) : Type 0 where
  pub end : IsEnd (form_call c)
  pub agrees : AgreesStrictly c.new c.taken c.reported

-- what can be wrong with an event that was read: a complaint that ends with it, or memory was refused for it
abbrev pub IsAgainstEvent : KeyOrder → Reason → Type 0
IsAgainstEvent o reason = IsComplaintReason (strict o) reason ⊎ (reason ≡ Memory)

-- the head of a map
abbrev pub IsMapHead : EventKind → Type 0
IsMapHead (Map n) = Unit {0}
IsMapHead kind = ⊥

-- The bytes of one event were read, of a payload at most 512, and the event is not reported. The last keys of this number of
-- open maps were stored.
pub record IsWithheld (o : KeyOrder) (spans : ℕ) (f : Refusal) (c : Call) : Type 0 where
  pub width : Width
  pub kind : EventKind
  pub bytes : List ℕ
  pub consumed : Consumes c.held c.left bytes
  pub are : IsEventBytes c.reported width kind bytes
  pub piece : (n : ℕ) → kind ≡ Piece n → n ≤ 512
  pub read : f.read ≡ length (c.taken ++ bytes)
  pub agrees : AgreesBetween c.new (c.taken ++ bytes) (c.reported ++ marks_of width kind)
  pub against : IsAgainstEvent o f.reason
  -- a request for memory is refused only where a map opens or is open
  pub needed : f.reason ≡ Memory → (0 < spans) ⊎ IsMapHead kind

-- No event was left out: after those reported, one is withheld, or a key of another kind begins, or the form refuses before
-- another event ends.
abbrev pub StopsAtOnce : KeyOrder → ℕ → Refusal → Call → Type 0
StopsAtOnce o spans f c = IsCut f c ⊎ IsTooLong f c ⊎ HasFormError f c ⊎ IsWithheld o spans f c ⊎ IsOtherKey f c

-- No more is reported. The refusal is that of the bytes consumed before and of those that the reader held, and it counts all
-- bytes that are consumed now.
pub record IsStrictRefusal (f : Refusal) (c : StrictCall) : Type 0 where
  pub unfinished : ¬ IsComplete c.old.machine
  pub bytes : List ℕ
  pub consumed : Consumes c.held c.left bytes
  pub read : f.read ≡ length (c.taken ++ bytes)
  pub at_once : StopsAtOnce c.old.order c.old.spans f (form_call c)
  pub verdict : IfSome c.held (λ rest. IsUnread (limits_of c.old) (strict c.old.order) (c.taken ++ rest) f)

-- what a call returns
abbrev pub IsNextStrict : Result (Option Event) Refusal → StrictCall → Type 0
IsNextStrict (Ok (Some e)) c = IsNextClean e c
IsNextStrict (Ok None) c = IsCleanEnd c
IsNextStrict (Err f) c = IsStrictRefusal f c
