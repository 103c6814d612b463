use Rattle.std.proofs.Common.{◌+◌, ◌∙◌, take, length, arith, sym, ap, refl, replicate, length-take-le}
use Rattle.theory_automaton.{specs.Automaton.reached, specs.Trace.a_byte, proofs.Runs.piece_part, proofs.Runs.piece_last}
use Rattle.cbor_machine.proofs.whole_event.whole_piece.Goals as goal
use Rattle.cbor_machine.specs.State.{frames_of, major_of}

pub returns-then-n-left-clause-reported : goal.returns-then-n-left-clause-reported
returns-then-n-left-clause-reported c = record {
  ran = piece_part c.args.depth c.args.chunk (major_of c.args.kind) (frames_of c.args.container_stack.now) (take (length c.args.rest.now) c.args.rest.now) c.args.left (length c.args.rest.now)
      (length-take-le (length c.args.rest.now) c.args.rest.now (omega arith)) c.if-n-left.true;
  proper = (refl, omega arith);
}

pub returns-clause-reported : goal.returns-clause-reported
returns-clause-reported c = record {
  ran = piece_last c.args.depth c.args.chunk (major_of c.args.kind) (frames_of c.args.container_stack.now) (take (c.args.left + 1) c.args.rest.now) c.args.left
      (length-take-le (c.args.left + 1) c.args.rest.now (omega arith))
      ∙ ap (λ q. reached q (replicate (c.args.left + 1) a_byte)) (sym c.finish_string.ensures.state);
  proper = (refl, omega arith);
}
