use Rattle.std.proofs.Common.{◌≡◌, ◌∙◌, length, sym, ap, arith, refl, inl, inr}
use Rattle.theory_automaton.{specs.Automaton.has_space, proofs.Rows.definite}
use Rattle.cbor_machine.proofs.whole_event.prefix_head.Goals as goal
use Rattle.cbor_machine.{proofs.WholeHeads.direct_alone, proofs.WholeHeads.space_begins, specs.State.frames_of}

pub overflow_sub-used : goal.overflow_sub-used
overflow_sub-used c = omega (arith, c.in_ok-argument.ensures.fewer, c.in_ok-first.ensures.cases.1)

pub returns-then-c-ge224-clause-used : goal.returns-then-c-ge224-clause-used
returns-then-c-ge224-clause-used c = (omega (arith, c.in_ok-argument.ensures.fewer, c.in_ok-first.ensures.cases.1), omega arith)

pub returns-clause-used : goal.returns-clause-used
returns-clause-used c = (omega (arith, c.in_ok-argument.ensures.fewer, c.in_ok-first.ensures.cases.1), omega arith)

pub returns-then-c-ge224-clause-here : goal.returns-then-c-ge224-clause-here
returns-then-c-ge224-clause-here c = record {
  following = c.in_ok-first.following.now;
  rest = c.in_ok-argument.argument.rest.now;
  is = c.in_ok-first.ensures.cases.0;
  argument = c.in_ok-argument.ensures.spelled;
  used = refl;
  small = omega arith;
  space = λ low. absurd (omega arith);
  simple = λ high. (c.if-low-gt24.false, λ e. elim c.if-number-lt-FIRST_SIMPLE_IN_TWO_BYTES.either [ inl h ↦ h.1 | inr h ↦ absurd (omega arith) ]);
}

pub returns-clause-here : goal.returns-clause-here
returns-clause-here c = record {
  following = c.in_ok-first.following.now;
  rest = c.in_ok-argument.argument.rest.now;
  is = c.in_ok-first.ensures.cases.0;
  argument = c.in_ok-argument.ensures.spelled;
  used = refl;
  small = omega arith;
  space = λ low. ap (has_space c.args.depth (frames_of c.args.container_stack.now)) (sym c.numbered_at.ensures) ∙ sym c.has_space.ensures ∙ c.if-not-has_space.false;
  simple = λ high. absurd (omega arith);
}

pub returns-then-c-ge224-clause-width : goal.returns-then-c-ge224-clause-width
returns-then-c-ge224-clause-width c = let a = c.in_ok-argument.argument in definite a.width a.number c.in_ok-argument.ensures.spelled.holds

pub returns-clause-width : goal.returns-clause-width
returns-clause-width c = let a = c.in_ok-argument.argument in definite a.width a.number c.in_ok-argument.ensures.spelled.holds

pub returns-then-c-ge224-clause-exact : goal.returns-then-c-ge224-clause-exact
returns-then-c-ge224-clause-exact c = λ one.
    let is = c.in_ok-first.ensures.cases.0 in
    let none : length c.in_ok-first.following.now ≡ 0 = omega (arith, one, ap length is) in
    let short = direct_alone _ _ _ _ _ none c.in_ok-argument.ensures.spelled in
    rw is (grind (arith, short, c.if-c-ge224.true))

pub returns-clause-exact : goal.returns-clause-exact
returns-clause-exact c = λ one.
    let is = c.in_ok-first.ensures.cases.0 in
    let none : length c.in_ok-first.following.now ≡ 0 = omega (arith, one, ap length is) in
    let short = direct_alone _ _ _ _ _ none c.in_ok-argument.ensures.spelled in
    let space = ap (has_space c.args.depth (frames_of c.args.container_stack.now)) (sym c.numbered_at.ensures) ∙ sym c.has_space.ensures ∙ c.if-not-has_space.false in
    let begins = space_begins c.args.depth c.args.container_stack.now c.in_ok-first.first.now c.if-c-ge224.false space in
    rw is (grind (arith, short, begins))
