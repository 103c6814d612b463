use Rattle.std.proofs.Common.{◌∙◌, ap}
use Rattle.cbor_head.specs.Prelude.{Value}
use Rattle.cbor_item.specs.{OpenValues.give, ViewValue.open_levels}
use Rattle.cbor_parser.specs.Sink.{leaf_value}
use Rattle.cbor_reader.proofs.ViewGiven.{expected, takes, given}
use Rattle.cbor_reader.proofs.view_sink.ViewSinkSink.leaf.Goals as goal

pub leaf-requires : goal.leaf-requires
leaf-requires c = record { kind = c.requires.kind; simple = c.requires.simple; expected = expected c.args.is_key c.args.self.now c.requires.expected }

pub leaf-requires-2 : goal.leaf-requires-2
leaf-requires-2 c = record { takes = takes c.args.is_key c.args.self.now c.requires.expected }

pub returns-clause-given : goal.returns-clause-given
returns-clause-given c =
    let old = c.args.self.now in
    given c.args.is_key (leaf_value c.args.major c.args.number) old (record { keys = c.leaf.new.self; views = c.leaf-2.new.self; joined = old.joined }) c.in_ok-leaf.ensures.given
    (c.in_ok-leaf-2.ensures.given ∙ ap (λ (v : Value). give v (open_levels old.views)) c.leaf_view.ensures)
