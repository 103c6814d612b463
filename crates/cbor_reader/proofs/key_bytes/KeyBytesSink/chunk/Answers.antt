use Rattle.std.proofs.Common.{◌∙◌, take, refl, sym}
use Rattle.cbor_reader.proofs.KeyStrings.{in-string, grows-kept, grows-left}
use Rattle.cbor_reader.proofs.key_bytes.KeyBytesSink.chunk.Goals as goal

pub prefix_bytes-requires-clause-string : goal.prefix_bytes-requires-clause-string
prefix_bytes-requires-clause-string c = in-string c.args.is_key c.args._is_text c.args.self.now (sym c.keeps.ensures ∙ c.if-keeps.true) c.requires.expected

pub returns-in_ok-prefix_bytes-clause-given : goal.returns-in_ok-prefix_bytes-clause-given
returns-in_ok-prefix_bytes-clause-given c =
    grows-kept c.args.is_key c.args._is_text (take c.args.count c.args.prefix.now) c.args.self.now (record { builder = c.prefix_bytes.new.self; inside = c.args.self.now.inside }) (sym c.keeps.ensures ∙ c.if-keeps.true) c.in_ok-prefix_bytes.ensures.given refl

pub returns-else-keeps-clause-given : goal.returns-else-keeps-clause-given
returns-else-keeps-clause-given c = grows-left c.args.is_key c.args._is_text (take c.args.count c.args.prefix.now) c.args.self.now (sym c.keeps.ensures ∙ c.if-keeps.false)
