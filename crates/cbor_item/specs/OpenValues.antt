-- What the parts given to a tree builder represent (RFC 8949, section 2).
use Rattle.std.specs.Prelude.{ℕ, ◌≡◌, ◌++◌, Bool, List, [], ◌∷◌, map}
use Rattle.cbor_head.specs.Value as value
use Rattle.cbor_head.specs.Prelude.{Value, Values, Entries}
use Rattle.cbor_head.specs.declared.major.Major.TheVariants.{Array, Map, Tag}
use Rattle.cbor_head.specs.declared.major.Major.{Major}
use Rattle.theory_values.specs.Lists.{values_of, entries_of}
use Rattle.cbor_item.specs.{View.view, declared.item.Item.Item}

-- What is open, with its finished members: items, or their values. Around all is the whole, which has one member once the
-- item is complete.
pub data Open (A : Type 0) : Type 0 where
  the_whole : List A → Open A
  an_array : List A → Open A
  a_map : List (A × A) → Open A
  -- a key waits for its value
  a_key : List (A × A) → A → Open A
  -- a tag's content is its one member
  a_tag : ℕ → List A → Open A

-- What contracts see of a builder: what is open, the innermost first, and whether a request for memory was refused.
pub record Building (A : Type 0) : Type 0 where
  pub items : List (Open A)
  pub refused : Bool

-- what is open, with items
abbrev pub OpenItem : Type 0
OpenItem = Open Item

-- what is open, with their values
abbrev pub OpenValue : Type 0
OpenValue = Open Value

-- the values of the members
abbrev pub open_value : OpenItem → OpenValue
open_value (the_whole is) = the_whole (map view is)
open_value (an_array is) = an_array (map view is)
open_value (a_map ps) = a_map (map (λ (p : Item × Item). (view p.0, view p.1)) ps)
open_value (a_key ps k) = a_key (map (λ (p : Item × Item). (view p.0, view p.1)) ps) (view k)
open_value (a_tag n is) = a_tag n (map view is)

-- the same of all that is open
abbrev pub open_levels : Building Item → List OpenValue
open_levels b = map open_value b.items

-- with one more finished member
abbrev pub with_member : Value → OpenValue → OpenValue
with_member v (the_whole vs) = the_whole (vs ++ v ∷ [])
with_member v (an_array vs) = an_array (vs ++ v ∷ [])
with_member v (a_map es) = a_key es v
with_member v (a_key es k) = a_map (es ++ (k, v) ∷ [])
with_member v (a_tag n vs) = a_tag n (vs ++ v ∷ [])

-- what is open, the innermost first, with one more finished member in the innermost
abbrev pub give : Value → List OpenValue → List OpenValue
give v [] = []
give v (c ∷ os) = with_member v c ∷ os

-- what a head opens, without members; the number is a tag's
abbrev pub opened : Major → ℕ → OpenValue
opened Array n = an_array []
opened Map n = a_map []
opened Tag n = a_tag n []
opened m n = the_whole []

-- the value of what ends: nothing ends while a key waits for its value, or a tag for its content
abbrev pub closed : OpenValue → Value
closed (the_whole (v ∷ vs)) = v
closed (an_array vs) = value.array (values_of vs)
closed (a_map es) = value.map (entries_of es)
closed (a_tag n (v ∷ vs)) = value.tag n v
closed c = value.simple 0

-- the innermost closed, as a member of what is around it
abbrev pub close : List OpenValue → List OpenValue
close [] = []
close (c ∷ os) = give (closed c) os

-- ---- what may follow

-- one more member fits: the whole and a tag have one
abbrev pub CanHold : OpenValue → Type 0
CanHold (the_whole vs) = vs ≡ []
CanHold (a_tag n vs) = vs ≡ []
CanHold c = Unit {0}

-- a part may begin
abbrev pub TakesValue : List OpenValue → Type 0
TakesValue [] = ⊥
TakesValue (c ∷ os) = CanHold c

-- no member is missing
abbrev pub CanEnd : OpenValue → Type 0
CanEnd (an_array vs) = Unit {0}
CanEnd (a_map es) = Unit {0}
CanEnd (a_tag n (v ∷ vs)) = Unit {0}
CanEnd c = ⊥

-- an array, a map or a tag is open, and may end as a member of what is around it
abbrev pub MayEnd : List OpenValue → Type 0
MayEnd (c ∷ d ∷ os) = CanEnd c × CanHold d
MayEnd _ = ⊥

-- the item is complete
abbrev pub IsWhole : List OpenValue → Type 0
IsWhole (the_whole (v ∷ vs) ∷ []) = Unit {0}
IsWhole _ = ⊥

-- ---- the parts of a value

-- a part: a value without members, the head of an array, map or tag, or its end
pub data ValuePart : Type 0 where
  leaf : Value → ValuePart
  begin : Major → ℕ → ValuePart
  end : ValuePart

-- what is open after a part
abbrev pub after : ValuePart → List OpenValue → List OpenValue
after (leaf v) os = give v os
after (begin m n) os = opened m n ∷ os
after end os = close os

-- what is open after these parts
abbrev pub run : List ValuePart → List OpenValue → List OpenValue
run [] os = os
run (p ∷ ps) os = run ps (after p os)

-- the parts of a value, in their order
abbrev mutual
  pub parts_of : Value → List ValuePart
  parts_of (value.array vs) = begin Array 0 ∷ parts_of_all vs ++ end ∷ []
  parts_of (value.map es) = begin Map 0 ∷ parts_of_entries es ++ end ∷ []
  parts_of (value.tag n v) = begin Tag n ∷ parts_of v ++ end ∷ []
  parts_of v = leaf v ∷ []

  -- of the members of an array
  pub parts_of_all : Values → List ValuePart
  parts_of_all value.no_values = []
  parts_of_all (value.a_value v vs) = parts_of v ++ parts_of_all vs

  -- of the pairs of a map, each key before its value
  pub parts_of_entries : Entries → List ValuePart
  parts_of_entries value.no_entries = []
  parts_of_entries (value.entry k v es) = parts_of k ++ (parts_of v ++ parts_of_entries es)

-- the next part may follow
abbrev pub Fits : ValuePart → List OpenValue → Type 0
Fits (leaf v) os = TakesValue os
Fits (begin m n) os = TakesValue os
Fits end os = MayEnd os

-- each of these parts may follow, and they make the whole of w
abbrev pub Makes : Value → List ValuePart → List OpenValue → Type 0
Makes w [] os = os ≡ the_whole (w ∷ []) ∷ []
Makes w (p ∷ ps) os = Fits p os × Makes w ps (after p os)
