use Rattle.std.proofs.Common.{◌∷◌, ap, refl, subst, IfSome}
use Rattle.std.specs.Option.{is_some}
use Rattle.cbor_parser.proofs.GivenFull.{full-asked, full-ended, full-repeats}
use Rattle.cbor_parser.proofs.parser.ParserItemRules.end_container.Goals as goal
use Rattle.cbor_parser.specs.Sink.{Repeats}

pub end-requires : goal.end-requires
end-requires g c =
    let (first, limits, input, x, outer, h) = c.requires in
    λ n. ((refl, tt), full-asked g.row.S.Denot g.S.Sink.agrees g.S.Sink.trusts first.sink limits.depth input c.is_in_map.result c.args.top.now (x ∷ outer) c.args.self.now.sink c.args._rest.now c.is_in_map.ensures h.0)

pub returns-in-Ok-None : goal.returns-in-Ok-None
returns-in-Ok-None g c = λ first limits input x outer h.
    (full-ended g.row.S.Denot g.S.Sink.agrees g.S.Sink.trusts first.sink limits.depth input c.is_in_map.result c.args.top.now (x ∷ outer) c.args.self.now.sink c.args._rest.now c.is_in_map.ensures h.0 c.end.new.self (c.in-Ok-None.ensures.ends (ap is_some c.in-Ok-None.field-0-is)), h.1)

pub returns-in-Ok-Some : goal.returns-in-Ok-Some
returns-in-Ok-Some g c = λ first limits input x outer h.
    let sink = c.args.self.now.sink in
    (full-repeats g.row.S.Denot g.S.Sink.agrees g.S.Sink.trusts first.sink limits.depth input c.is_in_map.result c.args.top.now (x ∷ outer) sink c.args._rest.now c.is_in_map.ensures h.0 c.in-Ok-Some.repeat (subst (λ reported. IfSome reported (Repeats g.row.S.Denot g.S.Sink.agrees g.S.Sink.trusts c.is_in_map.result sink)) c.in-Ok-Some.field-0-is c.in-Ok-Some.ensures.repeats), h.1)
