-- What the handle of a strict machine holds, and owns.
use Rattle.std.specs.Prelude.{◌≡◌, Option, Some, None}
use base.Fml.{Fml, ftrue}
use denote.RawPtr.{Ptr}
use Rattle.std.specs.{Box.Ownership.box_owns, Global.Global}
use Rattle.std_heap.specs.contracts.GlobalAllocator.TheImpl.{ghosts}
use Rattle.cbor_stream.specs.contracts.strict_machine.StrictMachine.{the_row}

-- the machine at the pointer, if there is one
abbrev pub Held : Type 0
Held = Option the_row.Denot

-- then the handle owns what a box of it owns
abbrev pub owned_if : Global → Ptr → Held → Fml
owned_if alloc p None = ftrue
owned_if alloc p (Some m) = box_owns (ghosts.dealloc_token alloc) the_row p m

-- there is one
abbrev pub IsHeld : Held → Type 0
IsHeld held = (m : the_row.Denot) × (held ≡ Some m)
