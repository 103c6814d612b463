-- How the inner state of a machine relates to the bytes consumed, and to its view.
use Rattle.std.specs.Prelude.{◌≡◌, ℕ, List, length}
use Rattle.theory_automaton.specs.Automaton.{start, run, reached}
use Rattle.theory_automaton.specs.Trace.{Mark}
use Rattle.cbor_machine.specs.State.{state_of, wanted_at, is_at_item, is_in_payload, is_done}
use Rattle.cbor_machine.specs.MachineView.{MachineView}

-- what the view shows is what the inner state has
pub record IsShown (m : MachineView) : Type 0 where
  pub open_count : m.open_count ≡ length m.inner.frames
  pub expected : m.expected ≡ wanted_at m.inner.position
  pub item_expected : m.item_expected ≡ is_at_item m.inner.position
  pub in_payload : m.in_payload ≡ is_in_payload m.inner.position
  pub complete : m.complete ≡ is_done m.inner.position

-- t led the automaton to the inner state, and reported ms
pub record IsInner (m : MachineView) (t : List ℕ) (ms : List Mark) : Type 0 where
  pub ran : run m.depth start t ≡ reached (state_of m.inner.position m.inner.frames) ms
  pub shown : IsShown m
