use Rattle.std.proofs.Common.{◌∷◌, sym, subst, refl}
use Rattle.cbor_parser.proofs.walk.close.Goals as goal
use Rattle.cbor_parser.{specs.inner.Rules.IsFilled, proofs.Stacks.no_others, proofs.Stacks.others}

pub end_container-requires : goal.end_container-requires
end_container-requires g c = λ n.
    let k = c.levels.stack in
    let rest = c.args.rest.now in
    let (first, limits, input, h) = c.requires.filled in
    let (x, xs, e) = others _ k c.args.cells.now c.levels.invariant.cells c.levels-test.true in
    ((refl, tt), (first, limits, input, x, xs, subst (λ ys. IsFilled _ _ g.R.ItemRules.fills g.R.ItemRules.passes first c.levels.rules limits input (k.top ∷ ys) rest) e (c.levels.invariant.filled first limits input h)))

pub returns-in-Some-clause-leads : goal.returns-in-Some-clause-leads
returns-in-Some-clause-leads g c = λ first limits input h.
    let k = c.levels.stack in
    let rest = c.args.rest.now in
    let (x, xs, e) = others _ k c.args.cells.now c.levels.invariant.cells c.levels-test.true in
    subst (λ ys. g.R.ItemRules.stops first c.end_container.new.self limits input (k.top ∷ ys) rest c.in-Some.stop) (sym e)
    (c.in-Some.ensures first limits input x xs (subst (λ ys. IsFilled _ _ g.R.ItemRules.fills g.R.ItemRules.passes first c.levels.rules limits input (k.top ∷ ys) rest) e (c.levels.invariant.filled first limits input h)))

pub returns-clause-leads : goal.returns-clause-leads
returns-clause-leads g c = λ first limits input h.
    let k = c.levels.stack in
    subst (λ ys. IsFilled _ _ g.R.ItemRules.fills g.R.ItemRules.passes first c.levels.rules limits input (k.top ∷ ys) c.args.rest.now) (no_others _ k c.args.cells.now c.levels-test.false) (c.levels.invariant.filled first limits input h)
