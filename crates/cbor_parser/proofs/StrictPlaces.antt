-- The position of a parse by the strict rules after what it took.
use Rattle.std.proofs.Common.{◌≡◌, ℕ, ◌+◌, ◌-◌, ◌<◌, ◌≤◌, Bool, true, List, [], ◌∷◌, length, drop, refl, sym, ap, ◌∙◌, subst, arith, length-drop}
use Rattle.std.proofs.lemmas.List.{drop-drop}
use Rattle.cbor_head.specs.Prelude.{strict, Bounds, AreBytes}
use Rattle.cbor_head.specs.declared.order.KeyOrder.{KeyOrder}
use Rattle.theory_verdicts.specs.PathKinds.{KeepsHere}
use Rattle.cbor_parser.specs.inner.Cells.{StrictCell, strict_cell, AgreesAt, HasEndedAt, HasClosed}
use Rattle.cbor_parser.specs.inner.StrictRules.{AreBefore, Expect, HaveItem, Fill, Pass, Stop, Advances}
use Rattle.cbor_parser.specs.declared.item_rules.Step.TheVariants as step
use Rattle.cbor_parser.specs.declared.strict_rules.StrictStop.TheVariants as stop
use Rattle.cbor_parser.proofs.Taking.{at_start, leaf_ends, opener_opens, fit_here}
use Rattle.cbor_parser.specs.inner.{Leaves.IsLeaf, Items.OpensWith, Items.IsFit, Rules.IsFilled, Rules.StepsTo}
use Rattle.cbor_parser.specs.declared.{container.Expected.TheVariants.Item, container.Expected.Expected, item_rules.Step.Step, last_key.LastKey.LastKey}
use Rattle.cbor_parser.specs.declared.strict_rules.{StrictRules.StrictRules, StrictStop.StrictStop}

module _ (first now : StrictRules) (limits : Bounds) (input : List ℕ) (c : StrictCell) (cs : List StrictCell) (rest : List ℕ) (h : Expect first now limits input (c ∷ cs) rest) where
  -- after the first `used` bytes
  module _ (used : ℕ) (some : 0 < used) (inside : used ≤ length rest) (following : List ℕ) (is : following ≡ drop used rest) where
    at : ℕ
    at = length input - length rest

    left : length following + used ≡ length rest
    left = omega (arith, ap length is, length-drop used rest, inside)

    there : length input - length following ≡ at + used
    unfolding at
    there = let fewer = h.0.fewer in omega (arith, left, fewer)

    moved : AreBefore first now input following
    unfolding at there
    moved = record {
      order = h.0.order;
      its = h.0.its;
      are = h.0.are;
      fewer = let fewer = h.0.fewer in omega (arith, left, fewer);
      is = is ∙ ap (drop used) h.0.is ∙ drop-drop used (length input - length rest) input ∙ ap (λ (n : ℕ). drop n input) (sym there);
    }

    -- an item is whole
    pub item_taken : (space : Bool) → IsLeaf space rest used → (space ≡ true → length h.1.ls < limits.depth) → IsFit limits c.expected rest → HaveItem first now limits input (c ∷ cs) following
    unfolding at there
    item_taken space leaf fits fit = (
      moved,
      subst (HasEndedAt first.order limits input (c ∷ cs)) (sym there)
          (leaf_ends first.order limits input (c ∷ cs) (length input - length rest) h.1 space used (subst (λ (x : List ℕ). IsLeaf space x used) h.0.is leaf) fits
          (subst (KeepsHere limits (strict first.order) h.1.ls) h.0.is (fit_here first.order limits input c cs (length input - length rest) h.1 rest fit))),
    )

    -- a container opens
    pub head_taken : (expected : Expected) (left : ℕ) → OpensWith expected left used rest → length h.1.ls < limits.depth → IsFit limits c.expected rest → Expect first now limits input (strict_cell expected left ((length input - length rest) + used) ∷ c ∷ cs) following
    unfolding at there
    head_taken expected left opens space fit =
        let opens = subst (OpensWith expected left used) h.0.is opens in (
          moved,
          subst (λ (n : ℕ). AgreesAt first.order limits input (strict_cell expected left ((length input - length rest) + used) ∷ c ∷ cs) n) (sym there)
              (opener_opens first.order limits input (c ∷ cs) (length input - length rest) h.1 used opens.inside space
              (subst (KeepsHere limits (strict first.order) h.1.ls) h.0.is (fit_here first.order limits input c cs (length input - length rest) h.1 rest fit)) expected left opens.opener),
        )

-- the innermost container is whole, or the input's item
pub is_filled : (first now : StrictRules) (limits : Bounds) (input : List ℕ) (c : StrictCell) (cs : List StrictCell) (rest : List ℕ) → AreBefore first now input rest → HasClosed first.order limits input cs (length input - length rest) → IsFilled StrictRules LastKey Fill Pass first now limits input (c ∷ cs) rest
is_filled first now limits input c [] rest before closed = (before, closed)
is_filled first now limits input c (d ∷ cs) rest before closed = (before, closed)

-- an item of a container is whole
pub steps : (r : Step StrictStop) (first now : StrictRules) (limits : Bounds) (input : List ℕ) (old new : StrictCell) (outer : List StrictCell) (rest : List ℕ) → HaveItem first now limits input (old ∷ outer) rest → Advances r now.order now.input.now (length now.input.now - length rest) old new
    → StepsTo StrictRules LastKey StrictStop Expect Stop Fill Pass r first now limits input (new ∷ outer) rest
steps r first now limits input old new outer rest h advances =
    go r (subst (λ (x : List ℕ). Advances r first.order x (length x - length rest) old new) h.0.its (subst (λ (o : KeyOrder). Advances r o now.input.now (length now.input.now - length rest) old new) h.0.order advances))
  where
    go : (r : Step StrictStop) → Advances r first.order input (length input - length rest) old new → StepsTo StrictRules LastKey StrictStop Expect Stop Fill Pass r first now limits input (new ∷ outer) rest
    go step.Next a = (h.0, a limits outer h.1)
    go step.Full a = is_filled first now limits input new outer rest h.0 (a limits outer h.1)
    go (step.Stopped stop.OutOfOrder) a = (h.0, a limits outer h.1)
    go (step.Stopped stop.Refused) a = absurd a

-- before the first item
pub starts : (first : StrictRules) (limits : Bounds) (input : List ℕ) → first.input.now ≡ input → AreBytes input → Expect first first limits input (strict_cell Item 0 0 ∷ []) input
starts first limits input its are =
    let none : 0 ≡ length input - length input = omega arith in (
      record { order = refl; its = its; are = are; fewer = omega arith; is = ap (λ (n : ℕ). drop n input) none },
      subst (AgreesAt first.order limits input (strict_cell Item 0 0 ∷ [])) none (at_start first.order limits input),
    )
