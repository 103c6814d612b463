use Rattle.std.proofs.Common.{◌∙◌}
use Rattle.cbor_diag.proofs.text.write_text.Goals as goal
use Rattle.cbor_diag.{specs.inner.Layout.laid_out, proofs.Layouts.laid, proofs.Putting.writes-stopped, proofs.Putting.writes-all}

pub returns-in-Ok : goal.returns-in-Ok
returns-in-Ok g c =
    let v = g.N.Node.value c.args.item.now in
    let r = writes-all _ _ c.new-out.result c.send_item.new.out (laid_out c.args.layout 0 v) c.new-out.ensures.waiting c.new-out.ensures.taken c.in-Ok.ensures.empty c.in-Ok.ensures.put in
    rw (← laid c.args.layout v) (c.taken.ensures ∙ r.0, r.1)

pub returns-in-Err : goal.returns-in-Err
returns-in-Err g c =
    let v = g.N.Node.value c.args.item.now in
    rw (← laid c.args.layout v)
    (writes-stopped _ _ c.new-out.result c.send_item.new.out (laid_out c.args.layout 0 v) c.taken-in-Err.result c.taken-in-Err.ensures c.new-out.ensures.waiting c.new-out.ensures.taken c.in-Err.ensures.put)
