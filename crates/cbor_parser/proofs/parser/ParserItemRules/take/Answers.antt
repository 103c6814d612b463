use Rattle.std.proofs.Common.{◌≡◌, ◌∙◌, ◌-◌, ℕ, length, sym, subst, arith}
use Rattle.cbor_head.specs.declared.keys.Keys.{Keys}
use Rattle.cbor_parser.proofs.parser.ParserItemRules.take.Goals as goal
use Rattle.cbor_parser.specs.inner.{Parser.IsExpected, Parser.TakesTo, Parts.TakesPrefix, Begins.IsLeft, OpenContainer.Cell}
use Rattle.cbor_parser.{specs.Stack.around, specs.Stack.open_levels, proofs.ParserRules.taken, proofs.Stacks.open_levels_count}

pub returns-clause-takes : goal.returns-clause-takes
returns-clause-takes g c = λ first input h.
    let a = c.args in
    let S = g.row.S.Denot in
    let K = g.S.Sink in
    let t = c.take_part in
    let depth : c.from-depth.result ≡ a.limits.depth = c.from-depth.ensures ∙ c.depth.ensures.depth in
    let new = open_levels Cell t.new.stack t.new.cells in
    taken S K.agrees K.trusts K.holds K.refused first a.self.now t.new.self a.limits input a.stack.now a.cells.now c.requires.cells a.rest.now h new (length t.new.cells) t.result
    (subst (λ (n : ℕ). TakesTo S K.agrees K.trusts K.holds K.refused t.result first.sink n input a.rest.now new t.new.self.sink) depth
    (t.ensures.takes first.sink input (subst (λ (n : ℕ). IsExpected S K.agrees K.trusts first.sink n input (open_levels Cell a.stack.now a.cells.now) a.self.now.sink a.rest.now) (sym depth) h.0)))
    (subst (λ (n : ℕ). TakesPrefix t.result (n - a.stack.now.height) a.stack.now.top a.rest.now) depth t.ensures.prefix)
    (λ some kinds. t.ensures.fits some (c.keys.ensures ∙ kinds))
    (λ e.
    let left = t.ensures.untaken e in
    let height : t.new.stack.height ≡ length (around Cell t.new.stack t.new.cells) = omega (arith, open_levels_count Cell t.new.stack t.new.cells t.ensures.cells) in
    subst (λ (n : ℕ). IsLeft a.limits.keys a.limits.depth t.new.stack.top n (length t.new.cells) a.rest.now) height
    (subst (λ (n : ℕ). IsLeft a.limits.keys n t.new.stack.top t.new.stack.height (length t.new.cells) a.rest.now) depth
    (subst (λ (k : Keys). IsLeft k c.from-depth.result t.new.stack.top t.new.stack.height (length t.new.cells) a.rest.now) c.keys.ensures left)))
