use Rattle.cbor_cursor.proofs.index.head_there.Goals as goal

pub unreachable-requires : goal.unreachable-requires
unreachable-requires c =
    let r = c.requires in
    c.in-None.ensures.head r.0 r.1 r.2 r.3
