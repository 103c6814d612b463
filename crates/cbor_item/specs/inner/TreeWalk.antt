-- A walk over a node that gives its parts to a tree builder: what is still to come.
use Rattle.std.specs.Prelude.{◌≡◌, List, [], ◌∷◌, ◌++◌, Option, Some, None}
use Rattle.cbor_head.specs.Prelude.{Value, AreInRange}
use Rattle.theory_values.specs.Lists.{values_of}
use Rattle.cbor_item.specs.OpenValues.{OpenValue, ValuePart, end, after, parts_of, parts_of_all}

abbrev pub parts_in : List Value → List ValuePart
parts_in vs = parts_of_all (values_of vs)

-- the parts still to come after the innermost: its end, and what is left of each container around it
abbrev pub parts_after : List (List Value) → List ValuePart
parts_after [] = []
parts_after (vs ∷ vss) = end ∷ parts_in vs ++ parts_after vss

abbrev pub parts_left : List (List Value) → List ValuePart
parts_left [] = []
parts_left (vs ∷ vss) = parts_in vs ++ parts_after vss

-- what remains of a value after its first part
abbrev pub inner_parts : Option (List Value) → List ValuePart
inner_parts None = []
inner_parts (Some vs) = parts_in vs ++ end ∷ []

abbrev pub IsInnerInRange : Option (List Value) → Type 0
IsInnerInRange None = Unit {0}
IsInnerInRange (Some vs) = AreInRange (values_of vs)

-- its first part was given, and the others are to come
pub record IsBegun (v : Value) (os os' : List OpenValue) (content : Option (List Value)) : Type 0 where
  pub first : ValuePart
  pub parts : parts_of v ≡ first ∷ inner_parts content
  pub given : os' ≡ after first os
  pub in_range : IsInnerInRange content
