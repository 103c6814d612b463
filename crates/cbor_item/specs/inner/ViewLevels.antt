-- What a view builder holds: the finished members of all that is open lie in two lists, those of the innermost last.
use Rattle.std.specs.Prelude.{◌≤◌, List, [], ◌∷◌, Option, Some, None, length, take, drop}
use Rattle.cbor_item.specs.OpenValues.{the_whole, an_array, a_map, a_key, a_tag}
use Rattle.cbor_item.specs.declared.view_level.Level.TheVariants.{Whole, Array, Map, Tag}
use Rattle.cbor_item.specs.{ViewValue.OpenView, declared.view.View.View, declared.view_level.Level.Level}

-- at most one
abbrev pub views_in : Option View → List View
views_in None = []
views_in (Some i) = i ∷ []

abbrev pub open_map : List (View × View) → Option View → OpenView
open_map ps None = a_map ps
open_map ps (Some k) = a_key ps k

-- what is open, if these are the members and the pairs of it and of all around it
abbrev pub open_view : Level → List View → List (View × View) → OpenView
open_view (Whole item) ms ps = the_whole (views_in item)
open_view (Array first) ms ps = an_array (drop first ms)
open_view (Map first key) ms ps = open_map (drop first ps) key
open_view (Tag n content) ms ps = a_tag n (views_in content)

-- those of what is around it
abbrev pub outer_members : Level → List View → List View
outer_members (Array first) ms = take first ms
outer_members _ ms = ms

abbrev pub outer_pairs : Level → List (View × View) → List (View × View)
outer_pairs (Map first key) ps = take first ps
outer_pairs _ ps = ps

-- the innermost first
abbrev pub open_views : List Level → List View → List (View × View) → List OpenView
open_views [] ms ps = []
open_views (l ∷ ls) ms ps = open_view l ms ps ∷ open_views ls (outer_members l ms) (outer_pairs l ps)

-- its members, and its pairs, begin within the lists
abbrev pub Begins : Level → List View → List (View × View) → Type 0
Begins (Array first) ms ps = first ≤ length ms
Begins (Map first key) ms ps = first ≤ length ps
Begins _ ms ps = Unit {0}

abbrev pub AllBegin : List Level → List View → List (View × View) → Type 0
AllBegin [] ms ps = Unit {0}
AllBegin (l ∷ ls) ms ps = Begins l ms ps × AllBegin ls (outer_members l ms) (outer_pairs l ps)
