use Rattle.cbor_builder.proofs.member.complete.Goals as goal

pub finish_pair-requires : goal.finish_pair-requires
finish_pair-requires c = let w = c.requires.ready c.in-Key.first c.in-Key.key c.in-Key.is in record { first = w.0; key = (w.1, w.2); prefixed = w.3 }
