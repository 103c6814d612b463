-- What contracts see of a machine.
use Rattle.std.specs.Prelude.{ℕ, Bool, Option}
use Rattle.cbor_head.specs.declared.reason.Refusal.{Refusal}
use Rattle.cbor_machine.specs.State.{Inner}

-- a machine, as its callers see it
pub record MachineView : Type 0 where
  -- the limits
  pub depth : ℕ
  pub bytes : ℕ
  -- how many bytes it consumed, and how many of them belong to its events
  pub taken : ℕ
  pub reported : ℕ
  -- how many arrays, maps and tags are open
  pub open_count : ℕ
  -- how many more bytes the open payload or head has; 1 where a head is expected, 0 after the item
  pub expected : ℕ
  -- the first byte of an item is expected
  pub item_expected : Bool
  -- a payload is open
  pub in_payload : Bool
  -- the item is complete
  pub complete : Bool
  pub refusal : Option Refusal
  -- what leads from one step to the next; of public clauses only those on saved machines and on `take_whole` look into it
  pub inner : Inner
