use Rattle.std.proofs.Common.{take, subst, sym, get_or, arith, take_all}
use Rattle.std.proofs.lemmas.List.{take_more}
use Rattle.cbor_diag.proofs.PathSteps.{HasWritten, one_more, path_written}
use Rattle.cbor_diag.proofs.path_text.write_path.Goals as goal
use Rattle.cbor_diag.specs.declared.item_path.Step.TheVariants.{Member}

pub loop-step-preserved : goal.loop-step-preserved
loop-step-preserved g c =
    subst (λ done. HasWritten c.args.item.now done (g.W.Write.contents c.args.writer.now) (g.W.Write.contents c.write_step.new.writer))
    (sym (take_more c.args.way.now c.loop-step.step-index (Member 0) c.loop-step-test.true))
    (one_more c.args.item.now (take c.loop-step.step-index c.args.way.now) (get_or c.args.way.now c.loop-step.step-index (Member 0)) _ _ _ c.loop-step.invariant
    c.in_ok-write_step.ensures)

pub returns : goal.returns
returns g c =
    let all = take_all c.loop-step.step-index c.args.way.now (omega (arith, c.loop-step-test.false)) in
    path_written c.args.item.now c.args.way.now _ _
    (subst (λ done. HasWritten c.args.item.now done (g.W.Write.contents c.args.writer.now) (g.W.Write.contents c.loop-step.writer)) all c.loop-step.invariant)
