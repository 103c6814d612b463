-- The names of this crate that its callers cite, re-exported. Declares nothing. A value and its encoding have
-- constructors of the same names: those here are of the encoding, Spelling.
pub use Rattle.cbor_head.specs.Limits.{Bounds, bounds, with_keys, AreBounds}
pub use Rattle.cbor_head.specs.Head.{IsSimple, Holds, major_number, with_argument, head, shortest, shortest_head, IsHead, head_parts}
pub use Rattle.cbor_head.specs.Value.{Value, map, Values, no_values, a_value, Entries, values_count, HasEntry, AnyEntry, Same, SameValues, Covered, Covers, AreBytes, IsInRange, AreInRange, AreEntriesInRange, HasDistinctKeys, IsValid, AreValid, AreEntriesValid, IsIntegerOrText, HasBasicKeys, HaveBasicKeys, EntriesHaveBasicKeys}
pub use Rattle.cbor_head.specs.Spelling.{Chunk, Spelling, unsigned, negative, bytes, text, byte_chunks, text_chunks, array, a_map, tag, simple, Spellings, no_spellings, a_spelling, SpelledEntries, no_entries, entry, spellings_count, entries_count, break_of, string_bytes_of, chunk_bytes, chunked, spell, spell_all, spell_entries, IsChunk, HoldsOrIndefinite, IsSpelled, AreSpelled, AreEntriesSpelled, depth, depth_all, depth_entries, chunks_joined, value_of, values_of, entries_of, IsItem}
pub use Rattle.cbor_head.specs.Canonical.{Pair, put, in_order, canonical, canonical_all, canonical_entries}
pub use Rattle.cbor_head.specs.Order.{key_cmp, key_lt}
pub use Rattle.cbor_head.specs.Complaint.{KeyRule, unasked, distinct, rising, Rules, form, plain, strict, Complaint, complaint, OfHead, OfIndefinite, OfCount, OfPayload, OfString, OfChunks, IsRepeated, OfKey, OfKind, ComplainsBy, ComplainsInBy, ComplainsInEntriesBy, Complains, OfKinds, IsComplaint}
pub use Rattle.cbor_head.specs.Verdict.{refusal, initial_reason, IsReasonAt, IsFormError, rank, IsFirstOf, HasNoneOf, Decision, accepted, refused, DecidesBy, IsVerdictBy, IsVerdict}
pub use Rattle.cbor_head.specs.Beginning.{IsBeginning, MayFollow, IsLongestBeginning}
pub use Rattle.cbor_head.specs.Reason.{reason_number}
