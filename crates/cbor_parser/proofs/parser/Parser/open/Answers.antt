use Rattle.std.proofs.Common.{◌∙◌, ◌-◌, ◌<◌, List, length, sym, subst, ap, arith, refl, length-append}
use Rattle.theory_verdicts.specs.Levels.{level_bytes}
use Rattle.cbor_parser.proofs.GivenParts.{expected-item, key-awaited, height-is, opened}
use Rattle.cbor_parser.proofs.parser.Parser.open.Goals as goal
use Rattle.cbor_parser.{specs.declared.item_rules.Part.TheVariants.Head, specs.Stack.around, proofs.Stacks.open_levels_count, specs.inner.Parser.TakesTo}
use Rattle.cbor_parser.{proofs.GivenKinds.begun-so, proofs.GivenKinds.opener-begun, specs.inner.OpenContainer.Cell}

pub begin-requires : goal.begin-requires
begin-requires g c =
    let a = c.args in
    λ k. ((refl, tt), (c.requires.kind, expected-item g.row.S.Denot g.S.Sink.agrees g.S.Sink.trusts a.stack.now.top a.self.now.sink a.rest.now c.is_key.result c.is_key.ensures (a.depth, around Cell a.stack.now a.cells.now, c.requires.expected)))

pub returns-clause-takes : goal.returns-clause-takes
returns-clause-takes g c = λ start input expected.
    let a = c.args in
    let space : length expected.ls < a.depth = omega (arith, c.if-stack-depth.false, height-is _ _ _ _ _ _ _ _ _ expected, open_levels_count Cell a.stack.now a.cells.now c.requires.cells) in
    subst (λ (x : List Cell). TakesTo g.row.S.Denot g.S.Sink.agrees g.S.Sink.trusts g.S.Sink.holds g.S.Sink.refused (Head (length a.rest.now - length a.following.now)) start a.depth input a.rest.now x c.begin.new.self) (sym c.push.ensures.levels)
    (opened _ _ _ _ _ _ _ _ _ expected a.major a.number a.opened a.following.now c.begin.new.self c.is_key.result (c.is_key.ensures ∙ key-awaited (length input) expected.ls a.stack.now.top (around Cell a.stack.now a.cells.now) expected.cells) space c.requires.opener c.in-Ok.ensures.given)

pub returns-clause-prefix : goal.returns-clause-prefix
returns-clause-prefix g c =
    let a = c.args in
    let k = c.requires.opener in
    let left = a.depth - a.stack.now.height in
    begun-so left a.rest.now a.following.now (length a.rest.now - length a.following.now) (omega (arith, ap length k.is, length-append (level_bytes k.level) a.following.now))
    (opener-begun left a.major a.number a.opened a.rest.now a.following.now (omega (arith, c.if-stack-depth.false)) k)
