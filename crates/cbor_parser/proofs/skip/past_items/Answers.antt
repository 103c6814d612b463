use Rattle.std.proofs.Common.{◌≡◌, ℕ, suc, ◌+◌, ◌-◌, true, [], ◌∷◌, length, refl, sym, ap, subst, arith, length-append}
use Rattle.cbor_head.specs.Prelude.{spell}
use Rattle.cbor_parser.proofs.skip.past_items.Goals as goal
use Rattle.cbor_parser.proofs.Skips.{one_more, gone_on, none_at_start, never-stops}
use Rattle.cbor_parser.{proofs.skip.past_items.Goals.After-counted-outermost, specs.inner.Parser.BeginsTaken, specs.inner.Parser.IsExpected}
use Rattle.cbor_parser.{proofs.GivenKinds.starts-kept, proofs.GivenParts.starts, specs.declared.skip.Nothing.Nothing}
use Rattle.cbor_parser.specs.inner.{Skip.HasItemsAtStart, Skip.anywhere, OpenContainer.Cell}

-- one more is there
next : (c : After-counted-outermost) → BeginsTaken c.args.limits.depth c.loop.rest.now
next c =
    let a = c.args in
    let rest = c.loop.rest.now in
    let (following, h) = c.requires.items in
    let some : a.count - c.loop.counter ≡ suc (a.count - (c.loop.counter + 1)) = omega (arith, c.loop-test.true) in
    let more = one_more a.limits.depth rest (a.count - (c.loop.counter + 1)) following (subst (λ (m : ℕ). HasItemsAtStart a.limits.depth rest m following) some (c.loop.invariant.left following h)) in
    (more.item, more.more, more.taken, more.bytes)

pub parse-requires : goal.parse-requires
parse-requires c = λ n.
    let a = c.args in
    let rest = c.loop.rest.now in
    let expected = starts Nothing (anywhere Nothing) true c.new.result.sink a.limits.depth rest tt (omega (arith, c.loop.invariant.small)) (λ t. next (goal.at.parse-requires c).After-counted-outermost) in (
      (refl, tt),
      (
        (subst (λ (x : Cell). IsExpected Nothing (anywhere Nothing) true c.new.result.sink a.limits.depth rest (x ∷ []) c.new.result.sink rest) (sym c.counted-outermost.ensures) expected, starts-kept a.limits.depth rest a.limits.keys),
        (c.loop.invariant.small, omega arith),
      ),
    )

pub loop-preserved : goal.loop-preserved
loop-preserved c =
    let a = c.args in
    let rest = c.loop.rest.now in
    let built = c.in-Ok.ensures.0 in
    let to = c.in-Ok.following.now in
    let some : a.count - c.loop.counter ≡ suc (a.count - (c.loop.counter + 1)) = omega (arith, c.loop-test.true) in
    record {
      left = λ following h.
          gone_on a.limits.depth rest (a.count - (c.loop.counter + 1)) following (subst (λ (m : ℕ). HasItemsAtStart a.limits.depth rest m following) some (c.loop.invariant.left following h)) built.item to built.taken built.bytes;
      small = omega (arith, c.loop.invariant.small, ap length built.bytes, length-append (spell built.item) to);
      within = omega (arith, c.loop.invariant.within, ap length built.bytes, length-append (spell built.item) to);
    }

pub returns : goal.returns
returns c = λ following h. none_at_start c.args.limits.depth c.loop.rest.now (c.args.count - c.loop.counter) following (omega (arith, c.loop-test.false)) (c.loop.invariant.left following h)

pub unreachable-requires : goal.unreachable-requires
unreachable-requires c =
    never-stops c.args.limits c.loop.rest.now c.requires.any c.loop.invariant.within (next (goal.at.unreachable-requires c).After-counted-outermost) _ c.in-Err.ensures
