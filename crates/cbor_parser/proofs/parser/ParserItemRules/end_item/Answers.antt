use Rattle.std.proofs.Common.{◌∷◌}
use Rattle.cbor_parser.proofs.parser.ParserItemRules.end_item.Goals as goal
use Rattle.cbor_parser.proofs.{GivenEnds.goes, GivenEnds.is-full, ParserRules.is_filled}

pub returns-then-advance : goal.returns-then-advance
returns-then-advance g c = λ first limits input outer h.
    (goes g.row.S.Denot g.S.Sink.agrees g.S.Sink.trusts first.sink limits.depth input c.args.top.now outer c.args.self.now.sink c.args._rest.now h.0 c.advance.new.self (c.advance.ensures.more c.if-advance.true), h.1)

pub returns-else-advance : goal.returns-else-advance
returns-else-advance g c = λ first limits input outer h.
    is_filled g.row.S.Denot g.S.Sink.agrees g.S.Sink.trusts first c.args.self.now limits input (c.advance.new.self ∷ outer) c.args._rest.now
    (is-full g.row.S.Denot g.S.Sink.agrees g.S.Sink.trusts first.sink limits.depth input c.args.top.now outer c.args.self.now.sink c.args._rest.now h.0 c.advance.new.self c.advance.ensures.kind c.advance.ensures.kept (c.advance.ensures.full c.if-advance.false)) h.1
