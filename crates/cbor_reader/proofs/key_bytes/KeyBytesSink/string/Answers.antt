use Rattle.std.proofs.Common.{◌∙◌, List, ℕ, refl, sym, take}
use Rattle.theory_values.specs.Parts.{give}
use Rattle.cbor_builder.specs.Built.{built}
use Rattle.cbor_parser.proofs.CanonGiven.{string-bytes}
use Rattle.cbor_reader.proofs.KeysGiven.{takes, key-takes, given-kept, given-left}
use Rattle.cbor_reader.proofs.key_bytes.KeyBytesSink.string.Goals as goal
use Rattle.cbor_reader.{proofs.key_bytes.KeyBytesSink.string.Goals.Start, specs.inner.KeyBytes.string_bytes}

abbrev bytes : Start → List ℕ
bytes c = string_bytes c.args.is_text (take c.args.count c.args.prefix.now)

pub store_string-requires-clause-takes : goal.store_string-requires-clause-takes
store_string-requires-clause-takes c = takes c.args.is_key c.args.self.now c.requires.expected

pub store_string-requires-clause-key : goal.store_string-requires-clause-key
store_string-requires-clause-key c =
    let old = c.args.self.now in
    let stored = built old.builder.order (give (bytes (goal.at.store_string-requires-clause-key c).Start) old.builder.open_levels) in
    key-takes c.args.is_key _ old (record { builder = stored; inside = old.inside }) c.requires.expected (sym c.keeps.ensures ∙ c.if-keeps.true) refl

pub returns-in_ok-store_string-clause-given : goal.returns-in_ok-store_string-clause-given
returns-in_ok-store_string-clause-given c =
    given-kept c.args.is_key _ _ c.args.self.now c.store_string.new.self _ (λ o. string-bytes o c.args.is_text (take c.args.count c.args.prefix.now)) (sym c.keeps.ensures ∙ c.if-keeps.true)
    refl c.in_ok-store_string.ensures.builder c.in_ok-store_string.ensures.inside

pub returns-else-keeps-clause-given : goal.returns-else-keeps-clause-given
returns-else-keeps-clause-given c =
    given-left c.args.is_key _ _ c.args.self.now (λ o. string-bytes o c.args.is_text (take c.args.count c.args.prefix.now)) (sym c.keeps.ensures ∙ c.if-keeps.false)
