-- The value of an item (RFC 8949, section 2).
use Rattle.std.specs.Prelude.{string_bytes}
use Rattle.cbor_head.specs.Value as value
use Rattle.cbor_head.specs.Prelude.{Value}
use Rattle.theory_values.specs.Lists.{values_of, entries_of}
use Rattle.cbor_item.specs.declared.item.Item.{Item, TheOpen.Item-F, TheFolds.fold-Item}

-- one level, with each item inside already seen as its value
abbrev pub view_step : Item-F Value → Value
view_step (Item-F.Unsigned n) = value.unsigned n
view_step (Item-F.Negative n) = value.negative n
view_step (Item-F.Bytes b) = value.bytes b.items
view_step (Item-F.Text s) = value.text (string_bytes s)
view_step (Item-F.Array v) = value.array (values_of v.items)
view_step (Item-F.Map v) = value.map (entries_of v.items)
view_step (Item-F.Tag n b) = value.tag n b.value
view_step (Item-F.Simple s) = value.simple s

-- an item's value
abbrev pub view : Item → Value
view = fold-Item Value view_step
