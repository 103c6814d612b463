use Rattle.std.proofs.lemmas.Result.{on_ok_weaker}
use Rattle.cbor_diag.proofs.explanation.explain.Goals as goal
use Rattle.cbor_diag.proofs.Explained.{explained}

pub returns : goal.returns
returns g c =
    on_ok_weaker c.write_all-2.result
    (explained c.args.limits.depth c.args.item.now c.args.refusal c.in_ok-way.way.items c.in_ok-way.ensures _ _ _ _ _ _ c.in_ok-write_sentences.ensures c.in_ok-write_surroundings.ensures
    c.in_ok-write_all.ensures.bytes (rw (c.as_slice.ensures.value) at c.in_ok-write_path.ensures))
    c.write_all-2.ensures.bytes
