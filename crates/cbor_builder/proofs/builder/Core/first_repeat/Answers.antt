use Rattle.std.proofs.Common.{◌≡◌, ◌+◌, ◌-◌, ◌^◌, ◌<◌, ◌≤◌, ℕ, suc, List, length, take, sym, ap, ◌∙◌, subst, arith, Option, IfSome}
use Rattle.cbor_builder.specs.inner.BuilderState.{frames, outers, came_open_levels}
use Rattle.cbor_builder.specs.inner.Laid.{opens, outer_spans, shape_open, Laid}
use Rattle.cbor_builder.specs.inner.Repeats.{maps_of, outward, ReportsWithin, IsBelow}
use Rattle.cbor_builder.proofs.OpenRepeats.{reports_first, reports_outward, reports_all, maps_more, below_fits, below_outward, below_first}
use Rattle.cbor_builder.proofs.builder.Core.first_repeat.Goals as goal
use Rattle.cbor_builder.specs.declared.{frame.Frame.Frame, repeat.Repeat.Repeat}
use Rattle.cbor_builder.proofs.{Reordered.reordered_refl, Reordered.reordered_outer, Nesting.outers_fit}

pub take_repeat-own-requires : goal.take_repeat-own-requires
take_repeat-own-requires c = record { laid = c.requires.laid }

pub loop-self-init : goal.loop-self-init
loop-self-init c =
    let s = c.args.self.now in
    let n = c.take_repeat-own.new.self in
    let e = c.take_repeat-own.ensures in
    let own = c.take_repeat-own.result in
    let first = c.requires.laid.0 in
    let laid = c.requires.laid.1 in (
      coe 1 0 (i. Laid (e.order i) (e.out i) ((e.spans ∙ reordered_outer first s.spans.items s.top.shape laid.1) i) (e.around i)) laid.0.3,
      (λ came was.
          coe 1 0 (i. ReportsWithin (came_open_levels came s) (opens (e.out i) ((e.spans ∙ reordered_outer came s.spans.items s.top.shape was.1) i) (e.around i)) (c.outward-found.ensures i))
          (reports_first (shape_open s.out came s.top.start s.top.shape) (opens (take s.top.from s.out) (outer_spans came s.top.shape) (outers s)) own (e.reports came was))),
      subst (λ (fs : List Frame). length fs ≤ 2 ^ 63) (sym e.around) (outers_fit s),
      subst (λ (x : Option Repeat). IsBelow x (2 ^ 63 - length (outers n))) (sym c.outward-found.ensures) (below_first own (2 ^ 63 - length (outers n))),
      e.order,
    )

pub take_repeat-own-requires-in-loop-self : goal.take_repeat-own-requires-in-loop-self
take_repeat-own-requires-in-loop-self c =
    let b = c.leave.new.self in
    let e = c.leave.ensures in
    let t = c.loop-self-test.true in
    record { laid = (b.spans.items, (coe 1 0 (k. Laid (e.order k) (e.out k) (e.spans k) (sym (e.frames t) k)) c.loop-self.invariant.0, reordered_refl b.spans.items b.top.shape)) }

pub loop-self-preserved : goal.loop-self-preserved
loop-self-preserved c =
    let s = c.loop-self.self in
    let i = c.loop-self.invariant in
    let b = c.leave.new.self in
    let l = c.leave.ensures in
    let f = b.top in
    let n = c.take_repeat-own-in-loop-self.new.self in
    let e = c.take_repeat-own-in-loop-self.ensures in
    let own = c.take_repeat-own-in-loop-self.result in
    let t = c.loop-self-test.true in
    let laid : Laid b.order b.out b.spans.items (frames b) = coe 1 0 (k. Laid (l.order k) (l.out k) (l.spans k) (sym (l.frames t) k)) i.0 in
    let reports = e.reports b.spans.items (laid, reordered_refl b.spans.items f.shape) in
    let os = opens (take f.from b.out) (outer_spans b.spans.items f.shape) (outers b) in
    let count : length (outers s) ≡ suc (length (outers n)) = ap length (l.frames t) ∙ ap (λ (fs : List Frame). suc (length fs)) (sym e.around) in
    let found = c.outward-found-in-loop-self.ensures ∙ ap (outward own c.loop-self.found) c.maps-maps.ensures in
    let least = i.2 in
    let more : 2 ^ 63 - length (outers n) ≡ suc (2 ^ 63 - length (outers s)) = omega (arith, count, least) in (
      coe 1 0 (k. Laid (e.order k) (e.out k) (e.spans k) (e.around k)) laid.3,
      (λ came first.
          let whole = came_open_levels came c.args.self.now in
          coe 1 0 (k. ReportsWithin whole (opens (e.out k) (e.spans k) (e.around k)) (found k))
          (reports_outward (shape_open b.out b.spans.items f.start f.shape) os whole own c.loop-self.found (maps_of f.shape) reports (maps_more b.out b.spans.items f.start f.shape os)
          (coe 1 0 (k. ReportsWithin whole (opens (l.out k) (l.spans k) (sym (l.frames t) k)) c.loop-self.found) (i.1 came first)))),
      omega (arith, count, least),
      coe 1 0 (k. IsBelow (found k) (more k)) (below_outward own c.loop-self.found f.shape (2 ^ 63 - length (outers s)) i.3),
      e.order ∙ l.order ∙ i.4,
    )

pub outward-found-requires-in-loop-self : goal.outward-found-requires-in-loop-self
outward-found-requires-in-loop-self c =
    let s = c.loop-self.self in
    let i = c.loop-self.invariant in
    let some : 1 ≤ length (outers s) = omega (arith, ap length (c.leave.ensures.frames c.loop-self-test.true)) in
    record {
      fits = subst (λ (n : ℕ). IfSome c.loop-self.found (λ (t : Repeat). t.outside + n < 2 ^ 64)) (sym c.maps-maps.ensures)
          (below_fits c.loop-self.found c.leave.new.self.top.shape (2 ^ 63 - length (outers s)) (omega (arith, some)) i.3);
    }

pub returns-clause-reports : goal.returns-clause-reports
returns-clause-reports c came was =
    let s = c.loop-self.self in
    let whole = came_open_levels came c.args.self.now in
    reports_all whole c.loop-self.found
    (subst (λ (fs : List Frame). ReportsWithin whole (opens s.out s.spans.items fs) c.loop-self.found) (c.leave.ensures.none c.loop-self-test.false) (c.loop-self.invariant.1 came was))
