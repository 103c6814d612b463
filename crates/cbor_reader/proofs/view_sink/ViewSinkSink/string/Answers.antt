use Rattle.std.proofs.Common.{◌∙◌, ap, take}
use Rattle.cbor_head.specs.Prelude.{Value}
use Rattle.cbor_item.specs.{OpenValues.give, ViewValue.open_levels}
use Rattle.theory_verdicts.specs.Reading.{string_value}
use Rattle.cbor_reader.proofs.ViewGiven.{expected, takes, given}
use Rattle.cbor_reader.proofs.view_sink.ViewSinkSink.string.Goals as goal

pub string-requires : goal.string-requires
string-requires c = record { within = c.requires.within; utf8 = c.requires.utf8; expected = expected c.args.is_key c.args.self.now c.requires.expected }

pub leaf-requires : goal.leaf-requires
leaf-requires c = record { takes = takes c.args.is_key c.args.self.now c.requires.expected }

pub returns-clause-given : goal.returns-clause-given
returns-clause-given c =
    let old = c.args.self.now in
    given c.args.is_key (string_value c.args.is_text (take c.args.count c.args.prefix.now)) old (record { keys = c.string.new.self; views = c.leaf.new.self; joined = old.joined })
    c.in_ok-string.ensures.given (c.in_ok-leaf.ensures.given ∙ ap (λ (v : Value). give v (open_levels old.views)) c.string_view.ensures)
