use Rattle.std.proofs.Common.{◌≡◌, List, length}
use Rattle.cbor_head.specs.Prelude.{Spelling, spell}
use Rattle.theory_verdicts.specs.Frame.{Frame}
use Rattle.cbor_strict.specs.inner.LastKeys.{view_value, IsKept, AreDefinite, still_open}
use Rattle.cbor_strict.proofs.last_keys.LastKeys.close.Given as goal
use Rattle.cbor_strict.proofs.KeptEnds.{HasShut}

abbrev pub invariant-loop-self : goal.invariant-loop-self
invariant-loop-self l = (fs : List Frame) (s : Spelling) → IsKept (view_value l.initial.self) fs (spell s) → AreDefinite fs → length (still_open fs) ≡ l.left → HasShut (view_value l.self) fs s

abbrev pub decreases-loop-self : goal.decreases-loop-self
decreases-loop-self l = length l.self.levels.items
