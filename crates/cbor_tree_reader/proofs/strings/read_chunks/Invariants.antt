use Rattle.std.proofs.Common.{◌≡◌, ℕ, List, ◌-◌, None}
use Rattle.cbor_head.specs.{Prelude.Bounds, Prelude.plain, declared.width.Width.Width}
use Rattle.theory_verdicts.{specs.Place.Container, specs.Reading.IsBegun, specs.Reading.string_kind, proofs.ChunkedStrings.IsReadingChunks}
use Rattle.cbor_tree_reader.proofs.strings.read_chunks.Given as goal

abbrev pub invariant-chunks : goal.invariant-chunks
invariant-chunks g l = ((b : Bounds) (fs : List Container) (t x : List ℕ) (w : Width) → IsBegun plain b fs t x l.fn.events w (string_kind l.fn.text None)
    → IsReadingChunks plain b fs t x l.fn.text l.content.items (g.R.Read.remaining l.fn.reader) (g.R.Read.remaining l.reader) l.events)
    × (l.memory ≡ l.fn.memory)

abbrev pub decreases-chunks : goal.decreases-chunks
decreases-chunks g l = l.events.machine.bytes - l.events.machine.taken
