-- The positions of a walk over an item and the effects of its calls, by what the rules say of each position.
use Rattle.std.specs.Prelude.{◌<◌, ◌≤◌, ◌-◌, ◌*◌, ◌^◌, ◌⊎◌, ℕ, Option, Some, None, List, [], ◌∷◌, length, take, drop}
use Rattle.std.specs.Borrow.{RattleType}
use prog.Memory.{size}
use denote.Param.{layout}
use Rattle.cbor_head.specs.Prelude.{Bounds}
use Rattle.cbor_parser.specs.declared.item_rules.Part.TheVariants as part
use Rattle.cbor_parser.specs.declared.item_rules.Step.TheVariants as step
use Rattle.cbor_parser.specs.declared.walk.WalkStop.TheVariants as stop
use Rattle.cbor_parser.specs.declared.walk.CloseResult.TheVariants as then
use Rattle.cbor_parser.specs.{contracts.open_container.OpenContainer.the_row, declared.item_rules.Part.Part, declared.item_rules.Step.Step}
use Rattle.cbor_parser.specs.declared.{walk.WalkStop.WalkStop, walk.CloseResult.CloseResult, open_container.OpenContainer.OpenContainer}

-- values of this type for as many containers as may be open fit in memory
abbrev pub CellsFitInMemory : RattleType → Type 0
CellsFitInMemory K = 1024 * size (layout (the_row K)) < 2 ^ 63

-- the bytes after the first `used`, in the form of a slice's range, so that the loop needs no proof of its own
abbrev pub following : ℕ → List ℕ → List ℕ
following used rest = take (length rest - used) (drop used rest)

-- R is the type of the rules, with a first state and the present one; K is what is stored for a container, E is why a
-- walk stops

-- the innermost container is complete; or, if no other is around it, the input's item
abbrev pub IsFilled : (R K : Type 0) → (fills : R → R → Bounds → List ℕ → List (OpenContainer K) → List ℕ → Type 0) → (passes : R → R → Bounds → List ℕ → List ℕ → Type 0) → R → R → Bounds → List ℕ → List (OpenContainer K) → List ℕ → Type 0
IsFilled R K fills passes first now limits input [] rest = ⊥
IsFilled R K fills passes first now limits input (c ∷ []) rest = passes first now limits input rest
IsFilled R K fills passes first now limits input (c ∷ d ∷ cs) rest = fills first now limits input (c ∷ d ∷ cs) rest

module _ (R K E : Type 0) (agrees : R → R → Bounds → List ℕ → List (OpenContainer K) → List ℕ → Type 0) (stops : R → R → Bounds → List ℕ → List (OpenContainer K) → List ℕ → E → Type 0) where
  module _ (ends fills : R → R → Bounds → List ℕ → List (OpenContainer K) → List ℕ → Type 0) (passes : R → R → Bounds → List ℕ → List ℕ → Type 0) (lacks : Bounds → List (OpenContainer K) → ℕ → List ℕ → Type 0) where
    -- what is taken where an item is expected, with this number of cells
    abbrev pub TakesTo : Part E → R → R → Bounds → List ℕ → List (OpenContainer K) → ℕ → List ℕ → Type 0
    TakesTo (part.Item used) first now limits input cs count rest = (0 < used) × (used ≤ length rest) × ends first now limits input cs (following used rest)
    TakesTo (part.Head used) first now limits input cs count rest = (0 < used) × (used ≤ length rest) × agrees first now limits input cs (following used rest)
    TakesTo (part.Break used) first now limits input cs count rest = (0 < used) × (used ≤ length rest) × IsFilled R K fills passes first now limits input cs (following used rest)
    TakesTo part.Untaken first now limits input cs count rest = agrees first now limits input cs rest × lacks limits cs count rest
    TakesTo (part.Stopped e) first now limits input cs count rest = stops first now limits input cs rest e

  -- what follows an item that is complete before these bytes
  abbrev pub StepsTo : (fills : R → R → Bounds → List ℕ → List (OpenContainer K) → List ℕ → Type 0) → (passes : R → R → Bounds → List ℕ → List ℕ → Type 0) → Step E → R → R → Bounds → List ℕ → List (OpenContainer K) → List ℕ → Type 0
  StepsTo fills passes step.Next first now limits input cs rest = agrees first now limits input cs rest
  StepsTo fills passes step.Full first now limits input cs rest = IsFilled R K fills passes first now limits input cs rest
  StepsTo fills passes (step.Stopped e) first now limits input cs rest = stops first now limits input cs rest e

  -- what follows a container that is complete, and all that close with it
  abbrev pub LeadsTo : (passes : R → R → Bounds → List ℕ → List ℕ → Type 0) → CloseResult E → R → R → Bounds → List ℕ → List (OpenContainer K) → List ℕ → Type 0
  LeadsTo passes then.Item first now limits input cs rest = agrees first now limits input cs rest
  LeadsTo passes then.Done first now limits input cs rest = passes first now limits input rest
  LeadsTo passes (then.Stopped e) first now limits input cs rest = stops first now limits input cs rest e

  -- where a walk stops, with this number of cells
  abbrev pub StopsAt : (lacks : Bounds → List (OpenContainer K) → ℕ → List ℕ → Type 0) → WalkStop E → R → R → Bounds → List ℕ → List (OpenContainer K) → ℕ → Type 0
  StopsAt lacks (stop.Untaken rest) first now limits input cs count = agrees first now limits input cs rest.now × lacks limits cs count rest.now
  StopsAt lacks (stop.Stopped rest e) first now limits input cs count = stops first now limits input cs rest.now e

-- what follows when a complete container closes: an item of the container around it is complete
abbrev pub ClosesTo : (R K E : Type 0) → (stops : R → R → Bounds → List ℕ → List (OpenContainer K) → List ℕ → E → Type 0) → (ends : R → R → Bounds → List ℕ → List (OpenContainer K) → List ℕ → Type 0) → Option E → R → R → Bounds → List ℕ → OpenContainer K → List (OpenContainer K) → List ℕ → Type 0
ClosesTo R K E stops ends None first now limits input top cs rest = ends first now limits input cs rest
ClosesTo R K E stops ends (Some e) first now limits input top cs rest = stops first now limits input (top ∷ cs) rest e

-- a missing cell is not the reason to stop: with this number of containers open, one of these cells is left, or no
-- more containers may open
abbrev pub HasCellLeft : {E : Type 0} → WalkStop E → ℕ → ℕ → Bounds → Type 0
HasCellLeft (stop.Untaken rest) height count limits = (height < count) ⊎ (limits.depth ≤ count)
HasCellLeft (stop.Stopped rest e) height count limits = Unit {0}
