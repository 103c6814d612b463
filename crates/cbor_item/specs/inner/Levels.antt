-- What a tree builder holds.
use Rattle.std.specs.Prelude.{◌<◌, List, [], ◌∷◌, Option, Some, None, map, reverse, vec_len, vec_capacity}
use Rattle.cbor_item.specs.OpenValues.{OpenItem, OpenValue, Building, the_whole, an_array, a_map, a_key, a_tag, open_value}
use Rattle.cbor_item.specs.declared.tree_level.Level.TheVariants.{Whole, Array, Map, Tag}
use Rattle.cbor_item.specs.declared.{item.Item.Item, tree_level.Level.Level, tree_builder.TreeBuilder.TheInside.Inside}

-- at most one
abbrev pub items_in : Option Item → List Item
items_in None = []
items_in (Some i) = i ∷ []

abbrev pub open_map : List (Item × Item) → Option Item → OpenItem
open_map ps None = a_map ps
open_map ps (Some k) = a_key ps k

abbrev pub open_item : Level → OpenItem
open_item (Whole item) = the_whole (items_in item)
open_item (Array items) = an_array items.items
open_item (Map pairs key) = open_map pairs.items key
open_item (Tag n content) = a_tag n (items_in content)

abbrev pub level_value : Level → OpenValue
level_value l = open_value (open_item l)

-- space for one more member
abbrev pub HasSpace : Level → Type 0
HasSpace (Array items) = vec_len items < vec_capacity items
HasSpace (Map pairs key) = vec_len pairs < vec_capacity pairs
HasSpace _ = Unit {0}

-- the innermost first
abbrev pub open_items : Inside → Building Item
open_items b = record { items = open_item b.top ∷ map open_item (reverse b.below.items); refused = b.memory }
