use Rattle.std.proofs.Common.{ℕ, ◌-◌, ◌^◌, ◌≤◌, List, length}
use Rattle.cbor_parser.proofs.skip.past_items.Given as goal
use Rattle.cbor_parser.specs.inner.Skip.{HasItemsAtStart}

abbrev pub invariant-loop : goal.invariant-loop
invariant-loop l = record {
  left : (following : List ℕ) → HasItemsAtStart l.limits.depth l.items l.count following → HasItemsAtStart l.limits.depth l.rest (l.count - l.counter) following;
  small : length l.rest ≤ 2 ^ 62;
  within : length l.rest ≤ l.limits.bytes;
}
