use Rattle.std.proofs.Common.{ap, ◌∙◌, sym}
use Rattle.cbor_builder.specs.Built.{Built}
use Rattle.cbor_reader.proofs.KeyStrings.{in-string, string-takes, ends-kept, ends-left}
use Rattle.cbor_reader.proofs.key_bytes.KeyBytesSink.end_string.Goals as goal

pub end_string-requires : goal.end_string-requires
end_string-requires c = record { string = in-string c.args.is_key c.args._is_text c.args.self.now (sym c.keeps.ensures ∙ c.if-keeps.true) c.requires.expected }

pub settle-requires : goal.settle-requires
settle-requires c =
    string-takes c.args.is_key c.args._is_text c.args.self.now (record { builder = c.end_string.new.self; inside = c.args.self.now.inside }) (sym c.keeps.ensures ∙ c.if-keeps.true) c.requires.expected c.in_ok-end_string.ensures.given

pub returns-in_ok-settle-clause-given : goal.returns-in_ok-settle-clause-given
returns-in_ok-settle-clause-given c =
    ends-kept c.args.is_key c.args._is_text c.args.self.now c.settle.new.self c.end_string.new.self (sym c.keeps.ensures ∙ c.if-keeps.true) c.in_ok-end_string.ensures.given (c.in_ok-settle.ensures.builder (ap (λ (x : Built). x.refused) c.in_ok-end_string.ensures.given)) c.in_ok-settle.ensures.inside

pub returns-else-keeps-clause-given : goal.returns-else-keeps-clause-given
returns-else-keeps-clause-given c = ends-left c.args.is_key c.args._is_text c.args.self.now (sym c.keeps.ensures ∙ c.if-keeps.false)
