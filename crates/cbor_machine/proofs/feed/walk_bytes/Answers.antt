use Rattle.std.proofs.Common.{arith, length, ap, ◌∙◌, sym}
use Rattle.theory_automaton.{specs.Automaton.reached, proofs.Runs.run-next, proofs.Runs.once-marks}
use Rattle.cbor_machine.proofs.feed.walk_bytes.Goals as goal
use Rattle.cbor_machine.{specs.State.state_of, proofs.Frames.wanted-head, proofs.Frames.still-going}

pub returns-in-Reports-clause-walked : goal.returns-in-Reports-clause-walked
returns-in-Reports-clause-walked c =
    run-next c.args.depth c.loop-i.i c.args.input.now _ _ _ c.loop-i-test.true c.loop-i.invariant.ran (sym c.in-Reports.ensures.next)
    ∙ ap (reached (state_of c.in-Reports.next c.take_byte.new.container_stack)) (sym (once-marks c.in-Reports.width c.in-Reports.kind c.in-Reports.ensures.once))

pub loop-i-preserved : goal.loop-i-preserved
loop-i-preserved c = record {
  ran = run-next c.args.depth c.loop-i.i c.args.input.now _ _ _ c.loop-i-test.true c.loop-i.invariant.ran (sym c.in-Goes.ensures.next);
  within = c.in-Goes.ensures.within;
  fits = c.in-Goes.ensures.fits;
  began = λ settled. absurd (c.in-Goes.ensures.open settled);
  going = λ not_done. still-going c.in-Goes.next c.args.depth c.take_byte.new.container_stack c.in-Goes.ensures.fits c.in-Goes.ensures.open;
  left = omega (arith, c.loop-i.invariant.left, c.in-Goes.ensures.left);
}

pub returns-in-Refuses-clause-wanted : goal.returns-in-Refuses-clause-wanted
returns-in-Refuses-clause-wanted c = λ few. omega (arith, wanted-head c.args.position.now (λ p. let none = ap length (c.requires.spent p) in omega (arith, none, c.loop-i-test.true)), c.loop-i.invariant.left, c.in-Refuses.ensures.left, c.loop-i-test.true)

pub returns-in-Reports-clause-wanted : goal.returns-in-Reports-clause-wanted
returns-in-Reports-clause-wanted c = λ few. omega (arith, wanted-head c.args.position.now (λ p. let none = ap length (c.requires.spent p) in omega (arith, none, c.loop-i-test.true)), c.loop-i.invariant.left, c.in-Reports.ensures.left, c.loop-i-test.true)

pub returns-in-Refuses-clause-reason : goal.returns-in-Refuses-clause-reason
returns-in-Refuses-clause-reason c = λ not_done. c.in-Refuses.ensures.reason (c.loop-i.invariant.going not_done)
