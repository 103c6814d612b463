-- Why no event is left out before a refusal.
use Rattle.std.specs.Prelude.{◌≡◌, ℕ, ◌+◌, ◌≤◌, ◌++◌, List, length, take}
use Rattle.cbor_head.specs.{Prelude.IsBeginning, Prelude.Spelling, Laws.StartsWith, declared.order.KeyOrder.KeyOrder, declared.reason.Refusal.Refusal}
use Rattle.cbor_head.specs.declared.{width.Width.Width, event.EventKind.EventKind}
use Rattle.theory_automaton.specs.Trace.{Mark, trace, within}
use Rattle.theory_automaton.specs.Marks.{marks_of}
use Rattle.cbor_machine.specs.{MachineView.MachineView, NextEvent.AgreesBetween}
use Rattle.cbor_strict.specs.StrictReader.{IsAgainstEvent}

-- Items start with t, and these are the marks of all events that end within t, of each of them.
pub record AreMarksWithin (d : ℕ) (t : List ℕ) (ms : List Mark) : Type 0 where
  pub beginning : IsBeginning d t
  pub are : (s : Spelling) → StartsWith d s t → ms ≡ within (length t) (trace s)

-- The bytes `all` were taken and ms reported before the refusal, and no other event ended.
pub data IsAtOnce (o : KeyOrder) (f : Refusal) (m : MachineView) (all : List ℕ) (ms : List Mark) : Type 0 where
  -- the byte at the refusal's offset is refused, or the byte limit is there: ms are all events before it
  at_place : f.read ≤ f.place + 1 → AreMarksWithin m.depth (take f.place all) ms → IsAtOnce o f m all ms
  -- one event more ends with the last byte. It is withheld, since a complaint ends with it, or memory was refused for it.
  withheld : (width : Width) (kind : EventKind) → IsAgainstEvent o f.reason → AgreesBetween m all (ms ++ marks_of width kind) → IsAtOnce o f m all ms
