use Rattle.std.proofs.Common.{◌<◌, sym, ap, ◌∙◌, arith}
use Rattle.cbor_machine.specs.ContainerStack.{level_frame, joined, advanced}
use Rattle.cbor_machine.proofs.ContainerStacks.{goes-on, popped-to, full-closes}
use Rattle.cbor_machine.proofs.container_stack.ContainerStack.complete.Goals as goal
use Rattle.cbor_machine.specs.State.{frame_of}

pub invariant_of-self : goal.invariant_of-self
invariant_of-self c = record {
  slots_space = c.levels.invariant.container_stack.slots_space;
  lefts_space = c.levels.invariant.container_stack.lefts_space;
  rooted = (goes-on (joined c.levels.self-inside.slots c.levels.self-inside.lefts) c.levels.self-inside.height c.levels.self-inside.top c.advance.new.top c.levels.invariant.container_stack.rooted
      (λ fs. c.advance.ensures.moved fs ∙ ap (λ b. advanced b (frame_of (level_frame c.advance.new.top)) fs) c.if-advance.true) (λ e. sym c.if-advance.true ∙ c.advance.ensures.root e)).0;
}

pub returns-then-advance-clause-state : goal.returns-then-advance-clause-state
returns-then-advance-clause-state c =
    (goes-on (joined c.levels.self-inside.slots c.levels.self-inside.lefts) c.levels.self-inside.height c.levels.self-inside.top c.advance.new.top c.levels.invariant.container_stack.rooted
    (λ fs. c.advance.ensures.moved fs ∙ ap (λ b. advanced b (frame_of (level_frame c.advance.new.top)) fs) c.if-advance.true) (λ e. sym c.if-advance.true ∙ c.advance.ensures.root e)).1
    ∙ c.levels.invariant.same

pub levels-preserved : goal.levels-preserved
levels-preserved c =
    let some : 0 < c.levels.self-inside.height = omega arith in
    let r = c.levels.invariant.container_stack.rooted in
    record {
      container_stack = record {
        slots_space = c.levels.invariant.container_stack.slots_space;
        lefts_space = c.levels.invariant.container_stack.lefts_space;
        rooted = (popped-to (joined c.levels.self-inside.slots c.levels.self-inside.lefts) c.levels.self-inside.height c.levels.self-inside.top c.level_at-self-inside.result some c.level_at-self-inside.ensures r).0;
      };
      same = full-closes (joined c.levels.self-inside.slots c.levels.self-inside.lefts) c.levels.self-inside.height c.levels.self-inside.top c.level_at-self-inside.result some c.level_at-self-inside.ensures r
          (λ fs. c.advance.ensures.moved fs ∙ ap (λ b. advanced b (frame_of (level_frame c.advance.new.top)) fs) c.if-advance.false)
          ∙ c.levels.invariant.same;
      fewer = let fewer = c.levels.invariant.fewer in omega arith;
    }
