-- A value holds no more than its item has bytes: each item has a head, and each byte of a string is in it.
use Rattle.std.proofs.Common.{suc, ◌≤◌, List, [], ◌∷◌, ◌++◌, length, flat_map, arith, length-append}
use Rattle.cbor_head.specs.Prelude.{head, Chunk, Spelling, Spellings, SpelledEntries, bytes, text, byte_chunks, text_chunks, array, a_map, tag, no_spellings, a_spelling, no_entries, entry, spell, spell_all, spell_entries, spellings_count, entries_count, value_of, values_of, entries_of, chunks_joined, chunk_bytes, chunked, break_of}
use Rattle.cbor_head.specs.declared.major.Major.TheVariants.{Bytes, Text, Array, Map, Tag}
use Rattle.cbor_head.specs.declared.{major.Major.Major, width.Width.TheVariants.Indefinite}
use Rattle.theory_values.proofs.ReadLaws.{length_head, length_spell}
use Rattle.theory_verdicts.proofs.Valid.{joined_bounded}
use Rattle.cbor_tree_reader.specs.Size.{size, size_all, size_entries}

chunks_size : (m : Major) (cs : List Chunk) → suc (length (chunks_joined cs)) ≤ length (chunked m cs)
chunks_size m cs =
    let prefix = head m Indefinite 0 in
    let parts = flat_map (chunk_bytes m) cs in
    omega (arith, joined_bounded m cs, length_head m Indefinite 0, length-append prefix parts, length-append (prefix ++ parts) (0xff ∷ []))

mutual
  pub size_bounded : (s : Spelling) → size (value_of s) ≤ length (spell s)
  size_bounded (bytes w q) = omega (arith, length_head Bytes w (length q), length-append (head Bytes w (length q)) q)
  size_bounded (text w q) = omega (arith, length_head Text w (length q), length-append (head Text w (length q)) q)
  size_bounded (byte_chunks cs) = chunks_size Bytes cs
  size_bounded (text_chunks cs) = chunks_size Text cs
  size_bounded (array w ss) =
      let prefix = head Array w (spellings_count ss) in
      omega (arith, sizes_bounded ss, length_head Array w (spellings_count ss), length-append prefix (spell_all ss), length-append (prefix ++ spell_all ss) (break_of w))
  size_bounded (a_map w es) =
      let prefix = head Map w (entries_count es) in
      omega (arith, entries_bounded es, length_head Map w (entries_count es), length-append prefix (spell_entries es), length-append (prefix ++ spell_entries es) (break_of w))
  size_bounded (tag w n s) = omega (arith, size_bounded s, length_head Tag w n, length-append (head Tag w n) (spell s))
  size_bounded s = length_spell s

  sizes_bounded : (ss : Spellings) → size_all (values_of ss) ≤ length (spell_all ss)
  sizes_bounded no_spellings = omega arith
  sizes_bounded (a_spelling s ss) = omega (arith, size_bounded s, sizes_bounded ss, length-append (spell s) (spell_all ss))

  entries_bounded : (es : SpelledEntries) → size_entries (entries_of es) ≤ length (spell_entries es)
  entries_bounded no_entries = omega arith
  entries_bounded (entry k v es) =
      omega (arith, size_bounded k, size_bounded v, entries_bounded es, length-append (spell k ++ spell v) (spell_entries es), length-append (spell k) (spell v))
