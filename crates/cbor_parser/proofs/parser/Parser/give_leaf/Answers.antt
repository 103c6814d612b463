use Rattle.std.proofs.Common.{◌∙◌, ◌-◌, length, refl, arith}
use Rattle.cbor_parser.proofs.GivenParts.{expected-item, key-awaited, scalar-ends}
use Rattle.cbor_parser.proofs.parser.Parser.give_leaf.Goals as goal
use Rattle.cbor_parser.{specs.Sink.leaf_value, proofs.GivenItems.scalar-head, proofs.GivenItems.head-shorter}
use Rattle.cbor_parser.proofs.GivenKinds.{begun-so, scalar-begun}

pub leaf-requires : goal.leaf-requires
leaf-requires g c =
    let r = c.requires in
    λ k. ((refl, tt), (r.kind, ((λ e. (r.head.simple e).0), expected-item g.row.S.Denot g.S.Sink.agrees g.S.Sink.trusts c.args.top.now c.args.self.now.sink c.args.rest.now c.is_key.result c.is_key.ensures r.expected)))

pub returns-in-Ok-clause-takes : goal.returns-in-Ok-clause-takes
returns-in-Ok-clause-takes g c = λ d outer start input expected.
    let a = c.args in
    scalar-ends _ _ _ start d input _ a.self.now.sink a.rest.now expected a.following.now (leaf_value a.major a.number) c.leaf.new.self (length a.rest.now - length a.following.now) (omega (arith, head-shorter a.major a.number a.rest.now a.following.now c.requires.head)) c.is_key.result
    (c.is_key.ensures ∙ key-awaited (length input) expected.ls a.top.now outer expected.cells) (scalar-head a.major a.number a.rest.now a.following.now c.requires.kind c.requires.head) c.in-Ok.ensures.given

pub returns-in-Ok-clause-prefix : goal.returns-in-Ok-clause-prefix
returns-in-Ok-clause-prefix g c = λ d o.
    let a = c.args in
    begun-so d a.rest.now a.following.now (length a.rest.now - length a.following.now) (omega (arith, head-shorter a.major a.number a.rest.now a.following.now c.requires.head))
    (scalar-begun (leaf_value a.major a.number) d a.rest.now a.following.now (scalar-head a.major a.number a.rest.now a.following.now c.requires.kind c.requires.head))
