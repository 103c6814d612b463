-- The machine that the numbers of a saved one hold.
use Rattle.std.specs.Prelude.{ℕ, ◌≡◌, List, [], length, replicate}
use Rattle.cbor_machine.specs.{Machine.Represents, MachineView.MachineView, inner.Saved.IsHeld, declared.machine.saved.SavedMachine.SavedMachine}

-- the numbers hold this machine
pub record Holds (s : SavedMachine) (m : MachineView) : Type 0 where
  pub depth : m.depth ≡ s.depth
  pub bytes : m.bytes ≡ s.bytes
  pub taken : m.taken ≡ s.taken
  pub reported : m.reported ≡ s.reported
  pub open_count : m.open_count ≡ s.open
  -- where the next byte belongs, the open containers and the refusal
  pub inner : IsHeld s m

-- The numbers hold a machine before an item's first byte, with these limits.
pub record Starts (s : SavedMachine) (depth bytes : ℕ) : Type 0 where
  pub machine : MachineView
  pub holds : Holds s machine
  pub depth_is : machine.depth ≡ depth
  pub bytes_is : machine.bytes ≡ bytes
  pub agrees : Represents machine [] []

-- only zeros
abbrev pub AreZeros : List ℕ → Type 0
AreZeros ns = ns ≡ replicate (length ns) 0
