use Rattle.std.proofs.Common.{arith, refl, ap, set, ◌∙◌}
use Rattle.cbor_cursor.proofs.IndexHeads.{at_first, at_last, next_expected, next_head, space, then_expected}
use Rattle.cbor_cursor.proofs.index.open_items.Goals as goal
use Rattle.cbor_cursor.proofs.{HeadsAt.same_head, IndexWalk.kept_after}

pub loop-offset-init : goal.loop-offset-init
loop-offset-init c = record {
  offset = omega arith;
  count = omega arith;
  expected = λ s h e. at_first s c.args.bytes.now c.args.items.now h e;
  kept = refl;
}

pub head_there-head-requires : goal.head_there-head-requires
head_there-head-requires c =
    let r = c.requires in
    let i = next_expected r.item c.args.bytes.now c.loop-offset.items c.loop-offset.offset c.loop-offset.count c.loop-offset-test.true (c.loop-offset.invariant.expected r.item r.definite r.bytes_are) in
    (_, _, _, next_head r.item c.args.bytes.now c.loop-offset.items c.loop-offset.offset c.loop-offset.count i)

pub step_of-step-requires : goal.step_of-step-requires
step_of-step-requires c =
    let r = c.requires in
    let i = next_expected r.item c.args.bytes.now c.loop-offset.items c.loop-offset.offset c.loop-offset.count c.loop-offset-test.true (c.loop-offset.invariant.expected r.item r.definite r.bytes_are) in
    let f = same_head _ _ _ _ _ _ _ c.head_there-head.ensures.head (next_head r.item c.args.bytes.now c.loop-offset.items c.loop-offset.offset c.loop-offset.count i) in
    let fits = space r.item c.args.bytes.now c.loop-offset.items c.loop-offset.offset c.loop-offset.count i c.loop-offset.invariant.offset c.head_there-head.result.content c.head_there-head.ensures.within.1 f.2 in
    rw (f.0, f.1) (omega (arith, fits))

pub loop-offset-preserved : goal.loop-offset-preserved
loop-offset-preserved c =
    let r = c.requires in
    let i = next_expected r.item c.args.bytes.now c.loop-offset.items c.loop-offset.offset c.loop-offset.count c.loop-offset-test.true (c.loop-offset.invariant.expected r.item r.definite r.bytes_are) in
    let f = same_head _ _ _ _ _ _ _ c.head_there-head.ensures.head (next_head r.item c.args.bytes.now c.loop-offset.items c.loop-offset.offset c.loop-offset.count i) in
    let fits = space r.item c.args.bytes.now c.loop-offset.items c.loop-offset.offset c.loop-offset.count i c.loop-offset.invariant.offset c.head_there-head.result.content c.head_there-head.ensures.within.1 f.2 in
    let end = rw (f.0, f.1) at c.step_of-step.ensures.end in
    record {
      offset = omega (arith, end, fits);
      count = omega (arith, end, c.head_there-head.ensures.within.0, c.loop-offset.invariant.count);
      expected = λ s h b. (
          let i = next_expected s c.args.bytes.now c.loop-offset.items c.loop-offset.offset c.loop-offset.count c.loop-offset-test.true (c.loop-offset.invariant.expected s h b) in
          let f = same_head _ _ _ _ _ _ _ c.head_there-head.ensures.head (next_head s c.args.bytes.now c.loop-offset.items c.loop-offset.offset c.loop-offset.count i) in
          let end = rw (f.0, f.1) at c.step_of-step.ensures.end in
          let members = rw (f.0, f.1) at c.step_of-step.ensures.members in
          let opened = rw (f.0, f.1) at c.opened.ensures in
          then_expected s c.args.bytes.now c.loop-offset.items c.loop-offset.offset c.loop-offset.count i c.loop-offset.invariant.offset c.head_there-head.result.content c.head_there-head.ensures.within.1 f.2 c.step_of-step.result.end c.step_of-step.result.members c.put.new.items end members (omega (arith, c.put.auto.items))
          (λ n. c.put.ensures.written n ∙ ap (set c.loop-offset.items c.loop-offset.count) opened));
      kept = kept_after c.loop-offset.items c.put.new.items c.args.items.now c.loop-offset.count c.opened.result c.put.ensures.written c.put.ensures.full c.loop-offset.invariant.kept;
    }

pub returns-clause-opened : goal.returns-clause-opened
returns-clause-opened c = λ s h e.
    let l = at_last s c.args.bytes.now c.loop-offset.items c.loop-offset.offset c.loop-offset.count (omega (arith, c.loop-offset-test.false)) (c.loop-offset.invariant.expected s h e) in
    (l.0, λ r. l.1 (omega (arith, r, c.loop-offset.auto.items)))
