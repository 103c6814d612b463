use Rattle.std.proofs.Common.{ℕ, suc, ◌<◌, ◌≢◌}
use Rattle.cbor_builder.proofs.sort.differ.Given as goal
use Rattle.cbor_builder.specs.inner.{Prefix.key_of, Repeats.nth}

abbrev pub invariant-loop-i : goal.invariant-loop-i
invariant-loop-i l = (k : ℕ) → suc k < l.i → key_of l.bytes (nth l.spans k) ≢ key_of l.bytes (nth l.spans (suc k))
