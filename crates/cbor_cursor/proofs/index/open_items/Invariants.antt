use Rattle.std.proofs.Common.{◌≡◌, ◌≤◌, ◌-◌, length, drop}
use Rattle.cbor_head.specs.Prelude.{Spelling, spell}
use Rattle.cbor_cursor.proofs.index.open_items.Given as goal
use Rattle.cbor_cursor.{specs.inner.Definite.IsDefinite, proofs.IndexHeads.AreStillExpected}

abbrev pub invariant-loop-offset : goal.invariant-loop-offset
invariant-loop-offset l = record {
  offset : l.offset ≤ length l.bytes;
  count : l.count ≤ l.offset;
  expected : (s : Spelling) → IsDefinite s → l.bytes ≡ spell s → AreStillExpected s l.bytes l.items l.offset l.count;
  kept : drop l.count l.items ≡ drop l.count l.fn.items;
}

abbrev pub decreases-loop-offset : goal.decreases-loop-offset
decreases-loop-offset l = length l.bytes - l.offset
