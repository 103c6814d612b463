use Rattle.std.proofs.Common.{ℕ, false, true≢false, ◌∙◌, ◌+◌, ◌-◌, ◌<◌, List, ◌∷◌, length, sym, ap, subst, arith}
use Rattle.std.proofs.lemmas.List.{take_rest}
use Rattle.cbor_parser.proofs.strict_rules.StrictRulesItemRules.take.Goals as goal
use Rattle.cbor_parser.proofs.{StrictPlaces.item_taken, StrictPlaces.head_taken, Taking.height_is}
use Rattle.cbor_parser.specs.inner.{Cells.StrictCell, Cells.strict_cell, Items.IsFit, Items.OpensWith, Leaves.IsLeaf, StrictRules.Expect, Rules.following}
use Rattle.cbor_parser.specs.Stack.{around, open_levels}

pub returns-in-Item-clause-takes : goal.returns-in-Item-clause-takes
returns-in-Item-clause-takes c = λ first input h.
    let a = c.args in
    let k = a.stack.now in
    let others = around StrictCell k a.cells.now in
    let used = c.in-Item.used in
    let prefix = c.in-Item.ensures.prefix in
    let leaf : IsLeaf false a.rest.now used = prefix.1 in
    let fit : IsFit a.limits k.top.expected a.rest.now = λ kinds expected. c.in-Item.ensures.fits tt (c.keys.ensures ∙ kinds) expected in (
      prefix.0,
      leaf.inside,
      item_taken first a.self.now a.limits input k.top others a.rest.now h used prefix.0 leaf.inside _ (take_rest a.rest.now used) false leaf (λ r. absurd (true≢false (sym r))) fit,
    )

pub returns-then-stack-cells-clause-takes : goal.returns-then-stack-cells-clause-takes
returns-then-stack-cells-clause-takes c = λ first input h.
    let a = c.args in
    let k = a.stack.now in
    let others = around StrictCell k a.cells.now in
    let used = c.in-Opens.used in
    let opens : OpensWith c.in-Opens.expected c.in-Opens.left used a.rest.now = c.in-Opens.ensures.prefix in
    let fit : IsFit a.limits k.top.expected a.rest.now = λ kinds expected. c.in-Opens.ensures.fits tt (c.keys.ensures ∙ kinds) expected in
    let space : length h.1.ls < a.limits.depth = omega (arith, c.if-stack-from.true, c.from.ensures, c.depth.ensures.depth, height_is first.order a.limits input k a.cells.now _ h.1 c.requires.cells) in
    let place = ap (λ (x : List ℕ). strict_cell c.in-Opens.expected c.in-Opens.left ((length x - length a.rest.now) + used) ∷ open_levels StrictCell k a.cells.now) (sym h.0.its) in (
      opens.some,
      opens.inside,
      subst (λ (x : List StrictCell). Expect first a.self.now a.limits input x (following used a.rest.now)) (place ∙ sym (c.push.ensures.levels ∙ ap (λ (l : StrictCell). l ∷ open_levels StrictCell k a.cells.now) c.strict_cell.ensures))
          (head_taken first a.self.now a.limits input k.top others a.rest.now h used opens.some opens.inside _ (take_rest a.rest.now used) c.in-Opens.expected c.in-Opens.left opens space fit),
    )
