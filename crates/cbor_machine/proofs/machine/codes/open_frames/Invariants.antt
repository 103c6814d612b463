use Rattle.std.proofs.Common.{◌≡◌, length, take}
use Rattle.cbor_machine.proofs.machine.codes.open_frames.Given as goal
use Rattle.cbor_machine.specs.inner.Saved.{frames_by}

abbrev pub invariant-loop-i : goal.invariant-loop-i
invariant-loop-i l = record { frames : l.container_stack ≡ frames_by (take l.i l.lefts) (take l.i l.kinds); count : length l.container_stack ≡ l.i }
