-- What is still to come of open containers, as values.
use Rattle.std.specs.Prelude.{List, [], ◌∷◌, map, reverse}
use Rattle.cbor_head.specs.Prelude.{Value}
use Rattle.cbor_item.specs.declared.rest.Rest.TheVariants.{One, Members, Pairs, Value as OneValue}
use Rattle.cbor_item.specs.declared.rest.Rest.{Rest}

-- the nodes that are to come have these values
module _ {N : Type 0} (see : N → Value) where
  -- the keys and values of pairs, in turn
  abbrev pub flat : List (N × N) → List Value
  flat [] = []
  flat (p ∷ ps) = see p.0 ∷ see p.1 ∷ flat ps

  -- the values that are still to come of a container
  abbrev pub left : Rest N → List Value
  left (One n) = see n.now ∷ []
  left (Members ns) = map see ns.now
  left (Pairs ps) = flat ps.now
  left (OneValue n ps) = see n.now ∷ flat ps.now

  -- the same of all that is open, the innermost first
  abbrev pub left_of_all : Rest N → List (Rest N) → List (List Value)
  left_of_all r rs = left r ∷ map left (reverse rs)
