use Rattle.std.proofs.Common.{◌∙◌, inl, inr}
use Rattle.cbor_cursor.proofs.keys.compare.Goals as goal
use Rattle.cbor_cursor.proofs.{LaterKeys.cmp_ended, keys.compare.Goals.then-loop-at-test+else-at-b, keys.compare.Goals.else-loop-at-test}

pub returns : goal.returns
returns c =
    let i = c.loop-at.invariant in
    c.cmp-2.ensures
    ∙ cmp_ended c.loop-at.at c.args.a.now c.args.b.now i.first i.second (elim c.loop-at-test.branch [ then-loop-at-test+else-at-b w ↦ inr w.if-at-b.false | else-loop-at-test w ↦ inl w.loop-at-test.false ])
    ∙ i.rest
