-- What a tree builder holds at the position of a reader of events.
use Rattle.std.specs.Prelude.{◌≡◌, true, List, [], ◌∷◌, IsUtf8}
use Rattle.cbor_head.specs.Prelude.{Spelling, Spellings, SpelledEntries, array, a_map, tag, no_spellings, a_spelling, no_entries, entry, value_of, Value}
use Rattle.cbor_builder.specs.Built.{IsContainer as IsOpener}
use Rattle.cbor_item.specs.OpenValues as parts
use Rattle.cbor_item.specs.OpenValues.{Building, OpenValue, the_whole, an_array, a_tag, open_levels, give, opened}
use Rattle.cbor_item.specs.declared.item.Item.{Item}
use Rattle.theory_verdicts.specs.Levels.{Level, a_member, a_key, a_value, some_member, some_key, some_value, tagged, ParseState, item_expected, item_full, item_whole}
use Rattle.theory_verdicts.specs.Reading.{string_value}
use Rattle.cbor_tree_reader.specs.declared.item_part.ItemPart.TheVariants.{Leaf, String, Begin, Break}
use Rattle.cbor_tree_reader.specs.{declared.item_part.ItemPart.ItemPart, inner.PlainParts.IsLeafMajor, inner.PlainParts.leaf_value}

-- the values of members, and of pairs
abbrev pub member_values : Spellings → List Value
member_values no_spellings = []
member_values (a_spelling s ss) = value_of s ∷ member_values ss

abbrev pub pair_values : SpelledEntries → List (Value × Value)
pair_values no_entries = []
pair_values (entry k v es) = (value_of k, value_of v) ∷ pair_values es

abbrev pub level_value : Level → OpenValue
level_value (a_member w left done) = an_array (member_values done)
level_value (a_key w left done) = parts.a_map (pair_values done)
level_value (a_value w left done k) = parts.a_key (pair_values done) (value_of k)
level_value (some_member done) = an_array (member_values done)
level_value (some_key done) = parts.a_map (pair_values done)
level_value (some_value done k) = parts.a_key (pair_values done) (value_of k)
level_value (tagged w n) = a_tag n []

abbrev pub level_values : List Level → List OpenValue
level_values [] = the_whole [] ∷ []
level_values (l ∷ ls) = level_value l ∷ level_values ls

-- a container with all its members
abbrev pub full_value : Spelling → OpenValue
full_value (array w ss) = an_array (member_values ss)
full_value (a_map w es) = parts.a_map (pair_values es)
full_value (tag w n s) = a_tag n (value_of s ∷ [])
full_value s = the_whole (value_of s ∷ [])

abbrev pub values_at : ParseState → List OpenValue
values_at (item_expected ls) = level_values ls
values_at (item_full ls s) = full_value s ∷ level_values ls
values_at (item_whole s) = the_whole (value_of s ∷ []) ∷ []

abbrev pub IsContainer : Spelling → Type 0
IsContainer (array w ss) = Unit {0}
IsContainer (a_map w es) = Unit {0}
IsContainer (tag w n s) = Unit {0}
IsContainer s = ⊥

-- an item that is full is a container
abbrev pub IsFullRight : ParseState → Type 0
IsFullRight (item_full ls s) = IsContainer s
IsFullRight st = Unit {0}

-- the tree builder is at the same position
abbrev pub IsTreeAt : Building Item → ParseState → Type 0
IsTreeAt tree st = IsFullRight st × (open_levels tree ≡ values_at st)

-- ---- parts

-- the part may be given to the tree builder
abbrev pub IsForTree : ItemPart → Type 0
IsForTree (Leaf m n) = IsLeafMajor m n
IsForTree (String is_text content) = is_text ≡ true → IsUtf8 content.items
IsForTree (Begin m n) = IsOpener m
IsForTree Break = Unit {0}

-- the open values after the part
abbrev pub values_with : ItemPart → List OpenValue → List OpenValue
values_with (Leaf m n) os = give (leaf_value m n) os
values_with (String is_text content) os = give (string_value is_text content.items) os
values_with (Begin m n) os = opened m n ∷ os
values_with Break os = os
