-- Encodings with definite lengths only.
use Rattle.std.specs.Prelude.{length}
use Rattle.cbor_head.specs.Prelude.{Holds, IsSimple, Spelling, Spellings, SpelledEntries, unsigned, negative, bytes, text, byte_chunks, text_chunks, array, a_map, tag, simple, no_spellings, a_spelling, no_entries, entry, spellings_count, entries_count}

-- every head is definite, and the argument fits it
abbrev mutual
  pub IsDefinite : Spelling → Type 0
  IsDefinite (unsigned w n) = Holds w n
  IsDefinite (negative w n) = Holds w n
  IsDefinite (bytes w s) = Holds w (length s)
  IsDefinite (text w s) = Holds w (length s)
  IsDefinite (byte_chunks cs) = ⊥
  IsDefinite (text_chunks cs) = ⊥
  IsDefinite (array w ss) = Holds w (spellings_count ss) × AreDefinite ss
  IsDefinite (a_map w es) = Holds w (entries_count es) × AreEntriesDefinite es
  IsDefinite (tag w n s) = Holds w n × IsDefinite s
  IsDefinite (simple n) = IsSimple n

  pub AreDefinite : Spellings → Type 0
  AreDefinite no_spellings = Unit {0}
  AreDefinite (a_spelling s ss) = IsDefinite s × AreDefinite ss

  pub AreEntriesDefinite : SpelledEntries → Type 0
  AreEntriesDefinite no_entries = Unit {0}
  AreEntriesDefinite (entry k v es) = IsDefinite k × IsDefinite v × AreEntriesDefinite es
