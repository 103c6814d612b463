use Rattle.std.proofs.Common.{◌≡◌, take, drop}
use Rattle.cbor_machine.proofs.machine.codes.save_frames.Given as goal
use Rattle.cbor_machine.specs.inner.Saved.{frames_by}

abbrev pub invariant-loop-i : goal.invariant-loop-i
invariant-loop-i l = record {
  held : frames_by (take l.i l.lefts) (take l.i l.kinds) ≡ take l.i l.container_stack;
  lefts : drop l.i l.lefts ≡ drop l.i l.initial.lefts;
  kinds : drop l.i l.kinds ≡ drop l.i l.initial.kinds;
}
