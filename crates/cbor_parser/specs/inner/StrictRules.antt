-- The position of a parse by the strict rules.
use Rattle.std.specs.Prelude.{◌≡◌, ◌≤◌, ◌<◌, ◌-◌, ℕ, suc, List, [], ◌∷◌, length, drop}
use Rattle.cbor_head.specs.Prelude.{strict, Bounds, AreBytes}
use Rattle.cbor_head.specs.declared.order.KeyOrder.{KeyOrder}
use Rattle.theory_verdicts.specs.Stop.{IsStopped}
use Rattle.cbor_parser.specs.inner.Cells.{StrictCell, AgreesAt, HasEndedAt, HasClosed, IsWhole, OutOfOrder}
use Rattle.cbor_parser.specs.declared.strict_rules.StrictStop.TheVariants as stop
use Rattle.cbor_parser.specs.declared.item_rules.Step.TheVariants as steps
use Rattle.cbor_parser.specs.declared.{item_rules.Step.Step, strict_rules.StrictRules.StrictRules, strict_rules.StrictStop.StrictStop}

-- the rules have this order and this input, and these bytes are its rest
pub record AreBefore (first now : StrictRules) (input rest : List ℕ) : Type 0 where
  pub order : now.order ≡ first.order
  pub its : now.input.now ≡ input
  pub are : AreBytes input
  pub fewer : length rest ≤ length input
  pub is : rest ≡ drop (length input - length rest) input

abbrev pub AreAt : (KeyOrder → Bounds → List ℕ → List StrictCell → ℕ → Type 0) → StrictRules → StrictRules → Bounds → List ℕ → List StrictCell → List ℕ → Type 0
AreAt P first now limits input cs rest = AreBefore first now input rest × P first.order limits input cs (length input - length rest)

-- an item is expected
abbrev pub Expect : StrictRules → StrictRules → Bounds → List ℕ → List StrictCell → List ℕ → Type 0
Expect = AreAt AgreesAt

-- an item is complete
abbrev pub HaveItem : StrictRules → StrictRules → Bounds → List ℕ → List StrictCell → List ℕ → Type 0
HaveItem = AreAt HasEndedAt

-- the innermost container is complete, and so an item of the one around it
abbrev pub IsFilledAt : KeyOrder → Bounds → List ℕ → List StrictCell → ℕ → Type 0
IsFilledAt o limits input [] at = ⊥
IsFilledAt o limits input (c ∷ cs) at = HasEndedAt o limits input cs at

abbrev pub Fill : StrictRules → StrictRules → Bounds → List ℕ → List StrictCell → List ℕ → Type 0
Fill = AreAt IsFilledAt

-- the input's item is complete
abbrev pub Pass : StrictRules → StrictRules → Bounds → List ℕ → List ℕ → Type 0
Pass first now limits input rest = AreBefore first now input rest × IsWhole first.order limits input (length input - length rest)

-- all cells are in use, but more containers may open
abbrev pub LackCells : Bounds → List StrictCell → ℕ → List ℕ → Type 0
LackCells limits cs count rest = (length cs ≡ suc count) × (count < limits.depth)

-- the input is refused, or the key that was expected in the innermost container and has ended
abbrev pub Stop : StrictRules → StrictRules → Bounds → List ℕ → List StrictCell → List ℕ → StrictStop → Type 0
Stop first now limits input cs rest stop.Refused = IsStopped (strict first.order) limits input now.refusal
Stop first now limits input [] rest stop.OutOfOrder = ⊥
Stop first now limits input (c ∷ cs) rest stop.OutOfOrder = AreBefore first now input rest × OutOfOrder first.order limits input c.kept (length input - length rest)

-- an item of a container is complete, and ends there
abbrev pub Advances : Step StrictStop → KeyOrder → List ℕ → ℕ → StrictCell → StrictCell → Type 0
Advances steps.Next o input at old new = (limits : Bounds) (cs : List StrictCell) → HasEndedAt o limits input (old ∷ cs) at → AgreesAt o limits input (new ∷ cs) at
Advances steps.Full o input at old new = (limits : Bounds) (cs : List StrictCell) → HasEndedAt o limits input (old ∷ cs) at → HasClosed o limits input cs at
Advances (steps.Stopped stop.OutOfOrder) o input at old new = (limits : Bounds) (cs : List StrictCell) → HasEndedAt o limits input (old ∷ cs) at → OutOfOrder o limits input new.kept at
Advances (steps.Stopped stop.Refused) o input at old new = ⊥
