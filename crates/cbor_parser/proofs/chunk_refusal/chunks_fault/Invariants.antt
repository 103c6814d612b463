use Rattle.std.proofs.Common.{◌≡◌, length}
use Rattle.cbor_head.specs.Prelude.{major_number}
use Rattle.theory_verdicts.{specs.Reading.string_major, proofs.RefusedChunks.AreChunksRead}
use Rattle.cbor_parser.proofs.chunk_refusal.chunks_fault.Given as goal
use Rattle.cbor_parser.specs.inner.{Begins.AreWholeChunks, Parts.chunked_from}

abbrev pub invariant-chunks : goal.invariant-chunks
invariant-chunks l = record {
  read : AreChunksRead l.is_text (chunked_from l.is_text l.following) l.rest;
  whole : AreWholeChunks l.is_text l.rest → AreWholeChunks l.is_text l.following;
  kind : l.kind ≡ major_number (string_major l.is_text);
}

abbrev pub decreases-chunks : goal.decreases-chunks
decreases-chunks l = length l.rest
