use Rattle.std.proofs.{Common.arith, Common.get_or, lemmas.Grind.common_steps}
use Rattle.cbor_machine.proofs.machine.codes.open_frames.Goals as goal
use Rattle.cbor_machine.proofs.SavedFrames.{read-on}

pub loop-i-preserved : goal.loop-i-preserved
loop-i-preserved c = record {
  frames = read-on c.args.lefts.now c.args.kinds.now c.loop-i.i c.loop-i.container_stack c.push.new.self _ (omega arith) (omega arith) c.loop-i.invariant.frames c.push.ensures (c.expected_of.ensures (get_or c.args.lefts.now c.loop-i.i 0));
  count = grind (arith, common_steps);
}
