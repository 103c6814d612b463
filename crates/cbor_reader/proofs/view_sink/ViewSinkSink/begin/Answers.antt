use Rattle.cbor_reader.proofs.ViewGiven.{expected, takes, opened}
use Rattle.cbor_reader.proofs.view_sink.ViewSinkSink.begin.Goals as goal

pub begin-requires : goal.begin-requires
begin-requires c = record { kind = c.requires.kind; expected = expected c.args.is_key c.args.self.now c.requires.expected }

pub begin-requires-2-clause-takes : goal.begin-requires-2-clause-takes
begin-requires-2-clause-takes c = takes c.args.is_key c.args.self.now c.requires.expected

pub returns-clause-given : goal.returns-clause-given
returns-clause-given c =
    let old = c.args.self.now in
    opened c.args.is_key c.args.major c.args.number old (record { keys = c.begin.new.self; views = c.begin-2.new.self; joined = old.joined }) c.in_ok-begin.ensures.given c.in_ok-begin-2.ensures.opened
