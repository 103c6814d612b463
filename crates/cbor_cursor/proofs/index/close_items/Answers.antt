use Rattle.std.proofs.Common.{arith, length-take, length-drop}
use Rattle.cbor_cursor.proofs.index.close_items.Goals as goal
use Rattle.cbor_cursor.specs.declared.placed.PlacedItem.{PlacedItem}

pub close-requires : goal.close-requires
close-requires c = omega (arith, length-take {A = PlacedItem}, length-drop {A = PlacedItem})
