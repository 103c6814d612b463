use Rattle.std.proofs.Common.{refl}
use Rattle.cbor_reader.proofs.view_sink.ViewSinkSink.begin_string.Goals as goal
use Rattle.cbor_reader.proofs.ViewGiven.{begun}

pub returns-clause-given : goal.returns-clause-given
returns-clause-given c =
    let old = c.args.self.now in
    begun c.args._is_key c.args._is_text old (record { keys = old.keys; views = old.views; joined = c.clear.new.self }) refl refl c.clear.ensures
