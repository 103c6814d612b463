use Rattle.std.proofs.Common.{◌≡◌, ◌∙◌, length, ap, refl, arith, true≢false, sym, subst}
use Rattle.theory_automaton.specs.Reasons.{IsEventReason}
use Rattle.theory_verdicts.proofs.Steps.{stops, limits-as, reported, not-ended}
use Rattle.theory_verdicts.proofs.Payloads.{none-come, payload-open, part-fits, part-comes, part-memory, part-cut, all-come}
use Rattle.theory_verdicts.specs.Place.{payload}
use Rattle.cbor_tree_reader.proofs.payload.read_payload.Goals as goal

pub loop-left-init : goal.loop-left-init
loop-left-init g c = (
  λ b chunk m fs t a. none-come b chunk m fs t c.args.count c.args.into.now.items _ c.args.events.now a,
  refl,
)

pub unreachable-requires : goal.unreachable-requires
unreachable-requires g c =
    let s = c.requires in
    let h = c.loop-left.invariant.0 s.b s.chunk s.m s.fs s.t s.at in
    not-ended s.b c.loop-left.events c.next.new.self _ (payload s.chunk s.m c.loop-left.left s.fs) _ _ h.at c.in-Ok-None.field-0 c.in-Ok-None.field-0-is
    (payload-open s.b s.chunk s.m s.fs s.t c.loop-left.left _ _ _ _ c.loop-left.events c.args.count h c.loop-left-test.true)
    (c.in-Ok-None.ensures.returned h.at.live _ h.at.marks h.at.agrees)

pub returns-in-Err-clause-payload : goal.returns-in-Err-clause-payload
returns-in-Err-clause-payload g c = λ b chunk m fs t a.
    let h = c.loop-left.invariant.0 b chunk m fs t a in
    part-cut b chunk m fs t c.loop-left.left _ _ _ _ c.loop-left.events c.args.count h c.loop-left-test.true _ c.in-Err.refusal
    (stops b c.loop-left.events c.next.new.self _ _ _ _ c.in-Err.refusal h.at (limits-as _ _ c.next.ensures.limits) (c.in-Err.ensures.returned h.at.live _ h.at.marks h.at.agrees).1)

pub returns-in-Err-extend-clause-payload : goal.returns-in-Err-extend-clause-payload
returns-in-Err-extend-clause-payload g c = λ b chunk m fs t a.
    let h = c.loop-left.invariant.0 b chunk m fs t a in
    part-memory b chunk m fs t c.loop-left.left _ _ _ _ c.loop-left.events c.args.count h c.loop-left-test.true c.in-Ok-Some.field-0-0 _ c.next.new.self (limits-as _ _ c.next.ensures.limits)
    (reported b c.loop-left.events c.next.new.self _ _ _ _ h.at c.in-Ok-Some.field-0 c.in-Ok-Some.field-0-0 c.in-Ok-Some.field-0-is (c.in-Ok-Some.ensures.returned h.at.live _ h.at.marks h.at.agrees))
    c.no_memory.result c.no_memory.ensures.taken (c.no_memory.ensures.memory, c.no_memory.ensures.place)

pub overflow_sub-left : goal.overflow_sub-left
overflow_sub-left g c =
    let s = c.requires in
    let h = c.loop-left.invariant.0 s.b s.chunk s.m s.fs s.t s.at in
    let f = part-fits s.b s.chunk s.m s.fs s.t c.loop-left.left _ _ _ _ c.loop-left.events c.args.count h c.loop-left-test.true c.in-Ok-Some.field-0-0 _ c.next.new.self (limits-as _ _ c.next.ensures.limits)
    (reported s.b c.loop-left.events c.next.new.self _ _ _ _ h.at c.in-Ok-Some.field-0 c.in-Ok-Some.field-0-0 c.in-Ok-Some.field-0-is (c.in-Ok-Some.ensures.returned h.at.live _ h.at.marks h.at.agrees)) in
    omega (arith, f.1, ap length c.piece-piece.ensures.piece)

pub loop-left-smaller : goal.loop-left-smaller
loop-left-smaller g c =
    let s = c.requires in
    let h = c.loop-left.invariant.0 s.b s.chunk s.m s.fs s.t s.at in
    let f = part-fits s.b s.chunk s.m s.fs s.t c.loop-left.left _ _ _ _ c.loop-left.events c.args.count h c.loop-left-test.true c.in-Ok-Some.field-0-0 _ c.next.new.self (limits-as _ _ c.next.ensures.limits)
    (reported s.b c.loop-left.events c.next.new.self _ _ _ _ h.at c.in-Ok-Some.field-0 c.in-Ok-Some.field-0-0 c.in-Ok-Some.field-0-is (c.in-Ok-Some.ensures.returned h.at.live _ h.at.marks h.at.agrees)) in
    omega (arith, f.0, f.1, ap length c.piece-piece.ensures.piece)

pub loop-left-preserved : goal.loop-left-preserved
loop-left-preserved g c = (
  λ b chunk m fs t a.
      let h = c.loop-left.invariant.0 b chunk m fs t a in
      rw c.piece-piece.ensures.piece
      (part-comes b chunk m fs t c.loop-left.left _ _ _ _ c.loop-left.events c.args.count h c.loop-left-test.true c.in-Ok-Some.field-0-0 _ c.next.new.self (limits-as _ _ c.next.ensures.limits)
      (reported b c.loop-left.events c.next.new.self _ _ _ _ h.at c.in-Ok-Some.field-0 c.in-Ok-Some.field-0-0 c.in-Ok-Some.field-0-is (c.in-Ok-Some.ensures.returned h.at.live _ h.at.marks h.at.agrees))
      c.extend.new.list.items c.in-Ok-Some.ensures.live (rw (sym c.piece-piece.ensures.piece) c.in-Ok.ensures.extended)),
  c.in-Ok.ensures.kept ∙ c.loop-left.invariant.1,
)

pub returns-clause-payload : goal.returns-clause-payload
returns-clause-payload g c = λ b chunk m fs t a.
    let none : c.loop-left.left ≡ 0 = omega (arith, c.loop-left-test.false) in
    (all-come b chunk m fs t c.loop-left.left _ _ _ _ c.loop-left.events c.args.count (c.loop-left.invariant.0 b chunk m fs t a) none, λ e. absurd (true≢false (sym e)))

pub returns-in-Err-clause-memory : goal.returns-in-Err-clause-memory
returns-in-Err-clause-memory g c = λ e.
    let s = c.requires in
    let h = c.loop-left.invariant.0 s.b s.chunk s.m s.fs s.t s.at in
    absurd (subst IsEventReason e (c.in-Err.ensures.reason h.at.live))
