use Rattle.std.proofs.Common.{◌≡◌, ℕ, List, Bool}
use Rattle.cbor_head.specs.{Prelude.Bounds, declared.major.Major.Major}
use Rattle.theory_verdicts.{specs.Place.Container, specs.Place.payload, specs.Reading.IsAt, proofs.Payloads.HasCome}
use Rattle.cbor_tree_reader.proofs.payload.read_payload.Given as goal

abbrev pub invariant-loop-left : goal.invariant-loop-left
invariant-loop-left g l = ((b : Bounds) (chunk : Bool) (m : Major) (fs : List Container) (t : List ℕ) → IsAt b l.fn.events t (payload chunk m l.fn.count fs)
    → HasCome b chunk m fs t l.left l.fn.into.items l.into.items (g.R.Read.remaining l.fn.reader) (g.R.Read.remaining l.reader) l.events l.fn.count)
    × (l.memory ≡ l.fn.memory)

abbrev pub decreases-loop-left : goal.decreases-loop-left
decreases-loop-left g l = l.left
