-- The state of a call for the next event.
use Rattle.std.specs.Prelude.{ℕ, ◌++◌, List, Option, Some, Result, Ok}
use Rattle.std.specs.Io.KnownBytes.{Consumes}
use Rattle.cbor_head.specs.declared.{event.Event.Event, reason.Refusal.Refusal}
use Rattle.theory_automaton.specs.{Trace.Mark, Pieces.kind_size, Pieces.piece_by}
use Rattle.cbor_machine.specs.{MachineView.MachineView, Machine.Represents}

-- Since a call began the machine has consumed t, which was read from the reader, and has reported nothing.
pub record HasRead (from to : Option (List ℕ)) (new : MachineView) (t : List ℕ) (ms : List Mark) : Type 0 where
  pub bytes : List ℕ
  pub consumed : Consumes from to bytes
  pub agrees : Represents new (t ++ bytes) ms

-- the length of the piece that was reported, if one was
abbrev pub piece_size : Result (Option Event) Refusal → ℕ
piece_size (Ok (Some e)) = kind_size e.kind
piece_size _ = 0

-- the last piece after a call returned
abbrev pub piece_after : Result (Option Event) Refusal → List ℕ → List ℕ → List ℕ
piece_after (Ok (Some e)) kept buffer = piece_by e.kind kept buffer
piece_after _ kept buffer = kept
