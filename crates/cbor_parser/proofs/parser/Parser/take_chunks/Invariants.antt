use Rattle.std.proofs.Common.{length}
use Rattle.cbor_parser.proofs.parser.Parser.take_chunks.Given as goal
use Rattle.cbor_parser.{specs.inner.Begins.AreWholeChunks, proofs.Chunked.AreChunks}

abbrev pub invariant-chunks : goal.invariant-chunks
invariant-chunks g l = record {
  chunks : AreChunks g.row.S.Denot g.S.Sink.agrees g.S.Sink.holds l.is_key l.is_text l.fn.start l.rest l.fn.self.sink l.self.sink;
  whole : AreWholeChunks l.is_text l.following → AreWholeChunks l.is_text l.rest;
}

abbrev pub decreases-chunks : goal.decreases-chunks
decreases-chunks g l = length l.rest
