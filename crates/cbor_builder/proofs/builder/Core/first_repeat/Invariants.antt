use Rattle.std.proofs.Common.{◌≡◌, ◌-◌, ◌^◌, ◌≤◌, List, length}
use Rattle.cbor_builder.specs.inner.BuilderState.{outers, WasLaid, came_open_levels}
use Rattle.cbor_builder.proofs.builder.Core.first_repeat.Given as goal
use Rattle.cbor_builder.specs.{declared.span.Span.Span, inner.Laid.opens, inner.Laid.Laid, inner.Repeats.ReportsWithin, inner.Repeats.IsBelow}

abbrev pub invariant-loop-self : goal.invariant-loop-self
invariant-loop-self l =
    Laid l.self.order l.self.out l.self.spans.items (outers l.self)
    × ((came : List Span) → WasLaid came l.fn.self → ReportsWithin (came_open_levels came l.fn.self) (opens l.self.out l.self.spans.items (outers l.self)) l.found)
    × (length (outers l.self) ≤ 2 ^ 63)
    × IsBelow l.found (2 ^ 63 - length (outers l.self))
    × (l.self.order ≡ l.fn.self.order)

abbrev pub decreases-loop-self : goal.decreases-loop-self
decreases-loop-self l = length (outers l.self)
