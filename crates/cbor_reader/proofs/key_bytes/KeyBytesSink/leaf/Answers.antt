use Rattle.std.proofs.Common.{ap, ◌∙◌, sym}
use Rattle.cbor_builder.specs.Built.{Built}
use Rattle.cbor_parser.{specs.Sink.leaf_value, proofs.CanonGiven.leaf-bytes}
use Rattle.cbor_reader.proofs.KeysGiven.{takes, key-takes, given-kept, given-left}
use Rattle.cbor_reader.proofs.key_bytes.KeyBytesSink.leaf.Goals as goal

pub leaf-requires-clause-takes : goal.leaf-requires-clause-takes
leaf-requires-clause-takes c = takes c.args.is_key c.args.self.now c.requires.expected

pub settle-requires : goal.settle-requires
settle-requires c =
    key-takes c.args.is_key _ c.args.self.now (record { builder = c.leaf.new.self; inside = c.args.self.now.inside }) c.requires.expected (sym c.keeps.ensures ∙ c.if-keeps.true) c.in_ok-leaf.ensures.given

pub returns-in_ok-settle-clause-given : goal.returns-in_ok-settle-clause-given
returns-in_ok-settle-clause-given c =
    given-kept c.args.is_key (leaf_value c.args.major c.args.number) _ c.args.self.now c.settle.new.self c.leaf.new.self (λ o. leaf-bytes o c.args.major c.args.number c.requires.kind) (sym c.keeps.ensures ∙ c.if-keeps.true)
    c.in_ok-leaf.ensures.given (c.in_ok-settle.ensures.builder (ap (λ (x : Built). x.refused) c.in_ok-leaf.ensures.given)) c.in_ok-settle.ensures.inside

pub returns-else-keeps-clause-given : goal.returns-else-keeps-clause-given
returns-else-keeps-clause-given c = given-left c.args.is_key _ _ c.args.self.now (λ o. leaf-bytes o c.args.major c.args.number c.requires.kind) (sym c.keeps.ensures ∙ c.if-keeps.false)
