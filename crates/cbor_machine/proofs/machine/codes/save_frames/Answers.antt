use Rattle.std.proofs.{Common.arith, lemmas.Grind.common_steps}
use Rattle.cbor_machine.proofs.machine.codes.save_frames.Goals as goal
use Rattle.cbor_machine.proofs.SavedFrames.{written}

pub loop-i-preserved : goal.loop-i-preserved
loop-i-preserved c = record {
  held = written c.loop-i.lefts c.loop-i.kinds c.args.container_stack.now c.loop-i.i _ _ c.frame.result (omega arith) (omega arith) (omega arith) c.loop-i.invariant.held c.frame.ensures c.frame_codes-left.ensures;
  lefts = grind (arith, common_steps);
  kinds = grind (arith, common_steps);
}
