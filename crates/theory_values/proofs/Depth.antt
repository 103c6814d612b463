-- A spelling is as deep as its value.
use Rattle.std.proofs.Common.{◌≡◌, max, suc, refl, ap}
use Rattle.cbor_head.specs.Value as value
use Rattle.cbor_head.specs.Prelude.{Spelling, Spellings, SpelledEntries, array, a_map, tag, no_spellings, a_spelling, no_entries, entry, value_of, values_of, entries_of, depth, depth_all, depth_entries}

mutual
  pub depth-value_of : (s : Spelling) → value.depth (value_of s) ≡ depth s
  depth-value_of (array w ss) = ap suc (depth-values_of ss)
  depth-value_of (a_map w es) = ap suc (depth-entries_of es)
  depth-value_of (tag w n s) = ap suc (depth-value_of s)
  depth-value_of _ = refl

  depth-values_of : (ss : Spellings) → value.depth_all (values_of ss) ≡ depth_all ss
  depth-values_of no_spellings = refl
  depth-values_of (a_spelling s ss) = λ i. max (depth-value_of s i) (depth-values_of ss i)

  depth-entries_of : (es : SpelledEntries) → value.depth_entries (entries_of es) ≡ depth_entries es
  depth-entries_of no_entries = refl
  depth-entries_of (entry k v es) = λ i. max (max (depth-value_of k i) (depth-value_of v i)) (depth-entries_of es i)
