use Rattle.std.proofs.Common.{[], refl, subst, arith}
use Rattle.cbor_parser.proofs.parse.parse.Goals as goal
use Rattle.cbor_parser.proofs.Stacks.{start_levels}

pub shallow-requires : goal.shallow-requires
shallow-requires g c = λ n.
    let r = c.requires in
    let a = c.args in
    let e = start_levels _ c.new.result a.outermost [] c.new.ensures.height c.new.ensures.top in
    ((refl, tt), (omega arith, (c.new.ensures.height, ((a.rules.now, subst (λ cs. g.R.ItemRules.agrees a.rules.now a.rules.now a.limits a.input.now cs a.input.now) e r.expected), (r.within, r.fits)))))

pub returns : goal.returns
returns g c =
    let r = c.requires in
    let a = c.args in
    let e = start_levels _ c.new.result a.outermost [] c.new.ensures.height c.new.ensures.top in
    c.shallow.ensures a.rules.now (subst (λ cs. g.R.ItemRules.agrees a.rules.now a.rules.now a.limits a.input.now cs a.input.now) e r.expected)
