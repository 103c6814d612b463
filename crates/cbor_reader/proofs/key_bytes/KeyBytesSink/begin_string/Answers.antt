use Rattle.std.proofs.Common.{◌∙◌, ◌∷◌, refl, sym, ap}
use Rattle.cbor_head.specs.declared.major.Major.{Major}
use Rattle.theory_values.specs.Parts.{opened}
use Rattle.cbor_builder.specs.Built.{built}
use Rattle.cbor_reader.proofs.key_bytes.KeyBytesSink.begin_string.Goals as goal
use Rattle.cbor_reader.proofs.{KeysGiven.takes, KeyStrings.begins-kept, KeyStrings.begins-left}

pub begin_string-requires-clause-takes : goal.begin_string-requires-clause-takes
begin_string-requires-clause-takes c = takes c.args.is_key c.args.self.now c.requires.expected

pub returns-in_ok-begin_string-clause-given : goal.returns-in_ok-begin_string-clause-given
returns-in_ok-begin_string-clause-given c =
    let old = c.args.self.now in
    let typed = ap (λ (m : Major). built old.builder.order (opened m 0 ∷ old.builder.open_levels)) c.string_type.ensures in
    begins-kept c.args.is_key c.args.is_text old (record { builder = c.begin_string.new.self; inside = old.inside }) (sym c.keeps.ensures ∙ c.if-keeps.true) (c.in_ok-begin_string.ensures.given ∙ typed) refl

pub returns-else-keeps-clause-given : goal.returns-else-keeps-clause-given
returns-else-keeps-clause-given c = begins-left c.args.is_key c.args.is_text c.args.self.now (sym c.keeps.ensures ∙ c.if-keeps.false)
