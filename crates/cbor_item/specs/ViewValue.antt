-- The value of a view (RFC 8949, section 2), and what is open of views.
use Rattle.std.specs.Prelude.{List, map}
use Rattle.cbor_head.specs.Value as value
use Rattle.cbor_head.specs.Prelude.{Value}
use Rattle.theory_values.specs.Lists.{values_of, entries_of}
use Rattle.cbor_item.specs.OpenValues.{Open, OpenValue, Building, the_whole, an_array, a_map, a_key, a_tag}
use Rattle.cbor_item.specs.declared.view.View.{View, TheOpen.View-F, TheFolds.fold-View}

-- one level, with each view inside already seen as its value
abbrev pub view_value_step : View-F Value → Value
view_value_step (View-F.Unsigned n) = value.unsigned n
view_value_step (View-F.Negative n) = value.negative n
view_value_step (View-F.Bytes b) = value.bytes b.now
view_value_step (View-F.Text s) = value.text s.now
view_value_step (View-F.Array v) = value.array (values_of v.now)
view_value_step (View-F.Map v) = value.map (entries_of v.now)
view_value_step (View-F.Tag n b) = value.tag n b.now
view_value_step (View-F.Simple n) = value.simple n

-- a view's value
abbrev pub view_value : View → Value
view_value = fold-View Value view_value_step

-- the values of members
abbrev pub view_values : List View → List Value
view_values vs = map view_value vs

-- the values of pairs
abbrev pub view_pairs : List (View × View) → List (Value × Value)
view_pairs ps = map (λ (p : View × View). (view_value p.0, view_value p.1)) ps

-- ---- what is open

-- what is open, with views
abbrev pub OpenView : Type 0
OpenView = Open View

-- with the values of its members
abbrev pub open_value : OpenView → OpenValue
open_value (the_whole vs) = the_whole (view_values vs)
open_value (an_array vs) = an_array (view_values vs)
open_value (a_map ps) = a_map (view_pairs ps)
open_value (a_key ps k) = a_key (view_pairs ps) (view_value k)
open_value (a_tag n vs) = a_tag n (view_values vs)

-- the innermost first
abbrev pub open_levels : Building View → List OpenValue
open_levels b = map open_value b.items
