-- An item that was read at once.
use Rattle.std.specs.Prelude.{◌≡◌, ℕ, List}
use Rattle.cbor_head.specs.Prelude.{Bounds}
use Rattle.cbor_machine.specs.NextEvent.{ItemEventsView}
use Rattle.cbor_strict.specs.{inner.LastKeys.view_value, inner.OpenItems.HasEnded, declared.open_items.OpenItems.OpenItems}

-- it has ended, and is in no key; after it this number of containers is open
pub record IsWholeEnded (v : OpenItems) (count : ℕ) : Type 0 where
  pub outside : (view_value v.keys).open_keys ≡ 0
  pub b : Bounds
  pub e : ItemEventsView
  pub t : List ℕ
  pub ended : HasEnded v b e t
  pub counted : count ≡ e.machine.open_count
