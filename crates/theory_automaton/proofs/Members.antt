-- A map's keys and values as the members of an array.
use Rattle.std.proofs.Common.{◌≡◌, ℕ, ◌+◌, ◌-◌, ◌≤◌, nat_lt, cond, ◌++◌, length, refl, sym, ap, ◌∙◌, arith, append_assoc}
use Rattle.cbor_head.specs.Prelude.{Spellings, SpelledEntries, no_spellings, a_spelling, no_entries, entry, spellings_count, entries_count, spell, spell_all, spell_entries, AreSpelled, AreEntriesSpelled, depth_all, depth_entries}
use Rattle.theory_automaton.specs.Trace.{trace, trace_all, trace_entries}
use Rattle.theory_automaton.specs.Open.{open_after, open_in, open_in_entries}

abbrev pub members : SpelledEntries → Spellings
members no_entries = no_spellings
members (entry k v es) = a_spelling k (a_spelling v (members es))

pub members-count : (es : SpelledEntries) → spellings_count (members es) ≡ entries_count es + entries_count es
members-count no_entries = refl
members-count (entry k v es) = let e = members-count es in omega (arith, e)

pub members-bytes : (es : SpelledEntries) → spell_all (members es) ≡ spell_entries es
members-bytes no_entries = refl
members-bytes (entry k v es) = sym (append_assoc (spell k) (spell v) (spell_all (members es))) ∙ ap (λ xs. (spell k ++ spell v) ++ xs) (members-bytes es)

pub members-marks : (es : SpelledEntries) → trace_all (members es) ≡ trace_entries es
members-marks no_entries = refl
members-marks (entry k v es) = sym (append_assoc (trace k) (trace v) (trace_all (members es))) ∙ ap (λ ms. (trace k ++ trace v) ++ ms) (members-marks es)

pub members-spelled : (es : SpelledEntries) → AreEntriesSpelled es → AreSpelled (members es)
members-spelled no_entries h = tt
members-spelled (entry k v es) h = (h.0, (h.1, members-spelled es h.2))

pub members-depth : (es : SpelledEntries) → depth_all (members es) ≤ depth_entries es
members-depth no_entries = omega arith
members-depth (entry k v es) = let e = members-depth es in omega (arith, e)

pub members-open : (t from : ℕ) (es : SpelledEntries) → open_in t from (members es) ≡ open_in_entries t from es
members-open t from no_entries = refl
members-open t from (entry k v es) =
    ap (λ n. cond (nat_lt (t - from) (length (spell k))) (open_after (t - from) k) (cond (nat_lt (t - (from + length (spell k))) (length (spell v))) (open_after (t - (from + length (spell k))) v) n))
    (members-open t (from + length (spell k) + length (spell v)) es)
