use Rattle.std.proofs.{Common.take, Common.refl, lemmas.Result.on_ok_weaker}
use Rattle.cbor_reader.proofs.view_sink.ViewSinkSink.chunk.Goals as goal
use Rattle.cbor_reader.proofs.ViewGiven.{grown}

pub returns-clause-given : goal.returns-clause-given
returns-clause-given c =
    let old = c.args.self.now in
    on_ok_weaker c.extend_prefix.result (grown c.args._is_key c.args._is_text (take c.args.count c.args.prefix.now) old (record { keys = old.keys; views = old.views; joined = c.extend_prefix.new.self }) c.requires.utf8 refl refl) c.extend_prefix.ensures.extended
