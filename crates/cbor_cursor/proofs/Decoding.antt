-- What the bytes of an encoding decode to.
use Rattle.std.proofs.Common.{◌≡◌, ℕ, ◌≤◌, List, [], ◌++◌, length, sym, ap, ◌∙◌, arith, append-nil, length-append, Option}
use Rattle.cbor_head.specs.Value as value
use Rattle.cbor_head.specs.Prelude.{head, break_of, Spelling, Spellings, SpelledEntries, array, a_map, tag, no_spellings, a_spelling, no_entries, entry, spell, spell_all, spell_entries, spellings_count, entries_count, value_of, values_of, entries_of, IsSpelled, AreSpelled, AreEntriesSpelled, depth, depth_all, depth_entries}
use Rattle.cbor_head.specs.Read.{either, read, read_many, read_pairs}
use Rattle.cbor_head.specs.declared.major.Major.TheVariants as majors
use Rattle.cbor_head.specs.declared.order.KeyOrder.{KeyOrder}
use Rattle.theory_values.proofs.ReadLaws.{reads, reads_all, reads_pairs, length_head}
use Rattle.cbor_cursor.specs.Decoded.{decoded, members_in, pairs_in}
use Rattle.cbor_cursor.specs.inner.Canonical.{encoded_items}

-- ---- no item is deeper than it has bytes

mutual
  pub depth_fits : (s : Spelling) → depth s ≤ length (spell s)
  depth_fits (array w ss) =
      let h = head majors.Array w (spellings_count ss) in
      omega (arith, depth_all_fits ss, length_head majors.Array w (spellings_count ss), length-append h (spell_all ss), length-append (h ++ spell_all ss) (break_of w))
  depth_fits (a_map w es) =
      let h = head majors.Map w (entries_count es) in
      omega (arith, depth_entries_fit es, length_head majors.Map w (entries_count es), length-append h (spell_entries es), length-append (h ++ spell_entries es) (break_of w))
  depth_fits (tag w n s) = omega (arith, depth_fits s, length_head majors.Tag w n, length-append (head majors.Tag w n) (spell s))
  depth_fits _ = omega arith

  pub depth_all_fits : (ss : Spellings) → depth_all ss ≤ length (spell_all ss)
  depth_all_fits no_spellings = omega arith
  depth_all_fits (a_spelling s ss) = omega (arith, depth_fits s, depth_all_fits ss, length-append (spell s) (spell_all ss))

  pub depth_entries_fit : (es : SpelledEntries) → depth_entries es ≤ length (spell_entries es)
  depth_entries_fit no_entries = omega arith
  depth_entries_fit (entry k v es) = omega (arith, depth_fits k, depth_fits v, depth_entries_fit es, length-append (spell k) (spell v), length-append (spell k ++ spell v) (spell_entries es))

-- ---- what is read

pub decoded_is : (xs : List ℕ) (s : Spelling) → IsSpelled s → xs ≡ spell s → decoded xs ≡ value_of s
decoded_is xs s h e =
    let whole : xs ≡ spell s ++ [] = e ∙ sym (append-nil (spell s)) in
    let d : depth s ≤ length xs = omega (arith, depth_fits s, ap length e) in
    ap (λ (o : Option (Spelling × List ℕ)). either (value.simple 0) (λ r. value_of r.0) o) (ap (read (length xs)) whole ∙ reads s h (length xs) d [])

pub members_are : (o : KeyOrder) (xs : List ℕ) (n : ℕ) (ss : Spellings) → AreSpelled ss → spellings_count ss ≡ n → xs ≡ spell_all ss → members_in (encoded_items o xs n) ≡ values_of ss
members_are o xs n ss h c e =
    let whole : xs ≡ spell_all ss ++ [] = e ∙ sym (append-nil (spell_all ss)) in
    ap (λ (o : Option (Spellings × List ℕ)). either value.no_values (λ r. values_of r.0) o)
    (ap (λ (k : ℕ). read_many (read (length xs)) k xs) (sym c) ∙ ap (λ (l : List ℕ). read_many (read (length xs)) (spellings_count ss) l) whole ∙ reads_all ss h (length xs) (omega (arith, depth_all_fits ss, ap length e)) [])

pub pairs_are : (o : KeyOrder) (xs : List ℕ) (n : ℕ) (es : SpelledEntries) → AreEntriesSpelled es → entries_count es ≡ n → xs ≡ spell_entries es → pairs_in (encoded_items o xs n) ≡ entries_of es
pairs_are o xs n es h c e =
    let whole : xs ≡ spell_entries es ++ [] = e ∙ sym (append-nil (spell_entries es)) in
    ap (λ (o : Option (SpelledEntries × List ℕ)). either value.no_entries (λ r. entries_of r.0) o)
    (ap (λ (k : ℕ). read_pairs (read (length xs)) k xs) (sym c) ∙ ap (λ (l : List ℕ). read_pairs (read (length xs)) (entries_count es) l) whole ∙ reads_pairs es h (length xs) (omega (arith, depth_entries_fit es, ap length e)) [])
