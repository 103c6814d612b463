use Rattle.std.proofs.Common.{◌∙◌, ◌-◌, ◌<◌, Bool, ℕ, List, length, sym, subst, ap, arith, refl, IfSome}
use Rattle.std.specs.Option.{is_some}
use Rattle.cbor_head.specs.Prelude.{head}
use Rattle.cbor_parser.proofs.GivenParts.{expected-item, key-awaited, height-is, empty-ends}
use Rattle.cbor_parser.proofs.parser.Parser.take_counted.Goals as goal
use Rattle.cbor_parser.specs.Sink.{Reported, AgreesAsFull, IsKeyless, Repeats}
use Rattle.cbor_parser.specs.inner.Parser.{IsExpected, IsFull, IsToEnd, HasEnded}
use Rattle.cbor_parser.proofs.GivenItems.{as-used, counts-container, head-opens, head-shorter}
use Rattle.cbor_parser.proofs.GivenFull.{container-full, has-ended, known-as, keyless-ends}
use Rattle.cbor_parser.{specs.Stack.around, specs.Stack.open_levels, proofs.Stacks.open_levels_count, specs.inner.OpenContainer.Cell}
use Rattle.cbor_parser.proofs.{GivenKinds.begun-so, GivenKinds.counted-begun, parser.Parser.take_counted.Goals.After-is_key-2}

-- it is to end, and has no keys
abbrev IsEmpty : (g : _) (c : After-is_key-2 g) → Bool → g.row.S.Denot → List ℕ → Type 0
IsEmpty g c t start input =
    IsFull g.row.S.Denot g.S.Sink.agrees g.S.Sink.trusts (λ ls s. AgreesAsFull g.row.S.Denot (Reported g.row.S.Denot g.S.Sink.agrees t) c.args.depth start c.begin.new.self ls s × IsKeyless s) c.args.depth input (open_levels Cell c.args.stack.now c.args.cells.now) c.args.following.now

-- it has begun, and is to end
empty : (g : _) (c : After-is_key-2 g) (start : g.row.S.Denot) (input : List ℕ) → IsExpected g.row.S.Denot g.S.Sink.agrees g.S.Sink.trusts start c.args.depth input (open_levels Cell c.args.stack.now c.args.cells.now) c.args.self.now.sink c.args.rest.now
    → (length c.args.following.now < length c.args.rest.now) × IsEmpty g c c.is_key-2.result start input
empty g c start input expected =
    let k = c.args.stack.now in
    let cs = open_levels Cell k c.args.cells.now in
    let space : length expected.ls < c.args.depth = omega (arith, c.if-stack-depth.false, height-is _ _ _ start c.args.depth input cs c.args.self.now.sink c.args.rest.now expected, open_levels_count Cell k c.args.cells.now c.requires.cells) in
    let e = empty-ends _ _ _ start c.args.depth input cs c.args.self.now.sink c.args.rest.now expected c.args.major c.args.expected c.args.number c.args.following.now c.begin.new.self c.is_key.result
    (c.is_key.ensures ∙ key-awaited (length input) expected.ls k.top (around Cell k c.args.cells.now) expected.cells) space c.requires.kind (omega (arith, c.if-number-gt0.false)) c.requires.head c.in-Ok.ensures.given in
    (e.0, subst (λ (t : Bool). IsEmpty g c t start input) (sym c.is_key-2.ensures) e.1)

-- it is to end
to-end : (g : _) (c : After-is_key-2 g) (start : g.row.S.Denot) (input : List ℕ) → IsEmpty g c c.is_key-2.result start input → IsToEnd g.row.S.Denot g.S.Sink.agrees g.S.Sink.trusts c.is_key-2.result start c.args.depth input (open_levels Cell c.args.stack.now c.args.cells.now) c.begin.new.self c.args.following.now
to-end g c start input e = known-as g.row.S.Denot g.S.Sink.agrees g.S.Sink.trusts start c.args.depth input _ _ (open_levels Cell c.args.stack.now c.args.cells.now) c.args.following.now e e.given.0

pub open-requires : goal.open-requires
open-requires g c =
    let a = c.args in
    let r = c.requires in
    let opener = head-opens a.major a.number a.expected c.counted-opened.result a.rest.now a.following.now r.kind c.if-number-gt0.true c.counted-opened.ensures r.head in
    λ n. ((refl, tt), (counts-container a.major a.expected r.kind, (r.cells, (opener, r.expected))))

pub begin-requires : goal.begin-requires
begin-requires g c =
    let a = c.args in
    λ n. ((refl, tt), (counts-container a.major a.expected c.requires.kind, expected-item g.row.S.Denot g.S.Sink.agrees g.S.Sink.trusts a.stack.now.top a.self.now.sink a.rest.now c.is_key.result c.is_key.ensures (a.depth, around Cell a.stack.now a.cells.now, c.requires.expected)))

pub end-requires : goal.end-requires
end-requires g c =
    let a = c.args in
    let (start, input, expected) = c.requires.expected in
    λ n. ((refl, tt), container-full g.row.S.Denot g.S.Sink.agrees g.S.Sink.trusts start a.depth input c.is_key-2.result (open_levels Cell a.stack.now a.cells.now) c.begin.new.self a.following.now (to-end g (goal.at.end-requires g c).After-is_key-2 start input (empty g (goal.at.end-requires g c).After-is_key-2 start input expected).1))

pub returns-in-Ok-None-clause-takes : goal.returns-in-Ok-None-clause-takes
returns-in-Ok-None-clause-takes g c = λ start input expected.
    let a = c.args in
    let cs = open_levels Cell a.stack.now a.cells.now in
    let h = c.requires.head in
    let e = empty g (goal.at.returns-in-Ok-None-clause-takes g c).After-is_key-2 start input expected in
    as-used (HasEnded g.row.S.Denot g.S.Sink.agrees g.S.Sink.trusts start a.depth input cs c.end.new.self) a.rest.now (head a.major h.width a.number) a.following.now (length a.rest.now - length a.following.now) h.is (omega (arith, e.0))
    (e.0, has-ended g.row.S.Denot g.S.Sink.agrees g.S.Sink.trusts start a.depth input c.is_key-2.result cs c.begin.new.self c.end.new.self a.following.now (to-end g (goal.at.returns-in-Ok-None-clause-takes g c).After-is_key-2 start input e.1) (c.in-Ok-None.ensures.ends (ap is_some c.in-Ok-None.field-0-is)))

pub returns-in-Ok-None-clause-prefix : goal.returns-in-Ok-None-clause-prefix
returns-in-Ok-None-clause-prefix g c =
    let a = c.args in
    let left = a.depth - a.stack.now.height in
    begun-so left a.rest.now a.following.now (length a.rest.now - length a.following.now) (omega (arith, head-shorter a.major a.number a.rest.now a.following.now c.requires.head))
    (counted-begun left a.major a.expected a.number a.rest.now a.following.now c.requires.kind (omega (arith, c.if-stack-depth.false)) c.requires.head)

-- it has no keys
pub unreachable-requires : goal.unreachable-requires
unreachable-requires g c =
    let a = c.args in
    let (start, input, expected) = c.requires.expected in
    let repeats = subst (λ reported. IfSome reported (Repeats g.row.S.Denot g.S.Sink.agrees g.S.Sink.trusts c.is_key-2.result c.begin.new.self)) c.in-Ok-Some.field-0-is c.in-Ok-Some.ensures.repeats in
    keyless-ends g.row.S.Denot g.S.Sink.agrees g.S.Sink.trusts start a.depth input c.is_key-2.result (open_levels Cell a.stack.now a.cells.now) c.begin.new.self a.following.now c.in-Ok-Some._repeat (empty g (goal.at.unreachable-requires g c).After-is_key-2 start input expected).1 repeats
