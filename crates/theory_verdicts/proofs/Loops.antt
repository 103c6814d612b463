-- The bytes of arrays and maps as their members come.
use Rattle.std.proofs.Common.{ℕ, ◌≡◌, List, [], ◌++◌, sym, ap, ◌∙◌, append_assoc, append-nil}
use Rattle.cbor_head.specs.Prelude.{head, Spelling, Spellings, SpelledEntries, array, a_map, no_spellings, a_spelling, no_entries, entry, spell, spell_all, spell_entries, spellings_count, entries_count, break_of}
use Rattle.cbor_head.specs.declared.{major.Major.TheVariants.Array, major.Major.TheVariants.Map, width.Width.Width}
use Rattle.theory_verdicts.{specs.Frame.with_all, specs.Frame.with_entries, proofs.Frames.spell_with, proofs.Frames.spell_entries_with}
use Rattle.theory_verdicts.specs.SoFar.{array_bytes, map_bytes}

pub array_bytes-more : (w : Width) (n : ℕ) (done : Spellings) (s : Spelling) → array_bytes w n (with_all done (a_spelling s no_spellings)) ≡ array_bytes w n done ++ spell s
array_bytes-more w n done s =
    ap (λ (x : List ℕ). head Array w n ++ x) (spell_with done (a_spelling s no_spellings) ∙ ap (λ (x : List ℕ). spell_all done ++ x) (append-nil (spell s)))
    ∙ sym (append_assoc (head Array w n) (spell_all done) (spell s))

pub map_bytes-more : (w : Width) (n : ℕ) (done : SpelledEntries) (k v : Spelling) → map_bytes w n (with_entries done (entry k v no_entries)) ≡ (map_bytes w n done ++ spell k) ++ spell v
map_bytes-more w n done k v =
    ap (λ (x : List ℕ). head Map w n ++ x) (spell_entries_with done (entry k v no_entries) ∙ ap (λ (x : List ℕ). spell_entries done ++ x) (append-nil (spell k ++ spell v)))
    ∙ sym (append_assoc (head Map w n) (spell_entries done) (spell k ++ spell v))
    ∙ sym (append_assoc (map_bytes w n done) (spell k) (spell v))

-- all members of a definite array were read
pub array_bytes-whole : (w : Width) (n : ℕ) (done : Spellings) → break_of w ≡ [] → spellings_count done ≡ n → spell (array w done) ≡ array_bytes w n done
array_bytes-whole w n done e f =
    ap (λ (x : List ℕ). array_bytes w (spellings_count done) done ++ x) e
    ∙ append-nil (array_bytes w (spellings_count done) done)
    ∙ ap (λ (k : ℕ). array_bytes w k done) f

pub map_bytes-whole : (w : Width) (n : ℕ) (done : SpelledEntries) → break_of w ≡ [] → entries_count done ≡ n → spell (a_map w done) ≡ map_bytes w n done
map_bytes-whole w n done e f =
    ap (λ (x : List ℕ). map_bytes w (entries_count done) done ++ x) e
    ∙ append-nil (map_bytes w (entries_count done) done)
    ∙ ap (λ (k : ℕ). map_bytes w k done) f
