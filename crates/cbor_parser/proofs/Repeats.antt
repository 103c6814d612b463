-- A key that has the canonical bytes of an earlier one of its map is the same.
use Rattle.std.proofs.Common.{◌≡◌, ℕ, suc, ◌+◌, ◌-◌, ◌^◌, ◌<◌, ◌⊎◌, List, [], ◌∷◌, ◌++◌, length, sym, ap, subst, inl, inr, arith, length-append}
use Rattle.cbor_head.specs.Prelude.{canonical, canonical_entries, IsRepeated, head, Spelling, SpelledEntries, no_entries, entry, spell, spell_entries, entries_count, value_of, entries_of}
use Rattle.cbor_head.specs.declared.major.Major.TheVariants as majors
use Rattle.cbor_head.specs.declared.order.KeyOrder.{KeyOrder}
use Rattle.theory_values.proofs.{Keys.same_exactly, Sound.IsSound, Sound.sound}
use Rattle.cbor_builder.specs.Built.{HasKey}
use Rattle.theory_verdicts.specs.Levels.{IsTaken, ArePairsTaken, Level, a_key, some_key, IsLevel, AreLevels, level_bytes, bytes_before}
use Rattle.theory_verdicts.{specs.Frame.keys_onto, proofs.Valid.in_range_of, proofs.Valid.valid_of}
use Rattle.cbor_parser.specs.{Sink.IsKeyAfter, inner.OpenContainer.opener}

-- ---- by its canonical bytes

repeated_in : (o : KeyOrder) (d : ℕ) (es : SpelledEntries) (ks : List Spelling) (k : Spelling) → ArePairsTaken d es → length (spell_entries es) < 2 ^ 64 → IsSound (value_of k)
    → HasKey (canonical_entries o (entries_of es)) (canonical o (value_of k)) ⊎ IsRepeated ks k → IsRepeated (keys_onto ks es) k
repeated_in o d no_entries ks k h short s (inl x) = absurd x
repeated_in o d no_entries ks k h short s (inr x) = x
repeated_in o d (entry l v es) ks k h short s x =
    let size = length-append (spell l ++ spell v) (spell_entries es) in
    let pair = length-append (spell l) (spell v) in
    let rest : length (spell_entries es) < 2 ^ 64 = omega (arith, short, size) in
    let more = repeated_in o d es (l ∷ ks) k h.2 rest s in
    let sound_l = sound (value_of l) (in_range_of l h.0.spelled (omega (arith, short, size, pair))) (valid_of l 0 (h.0.clean 0)) in
    elim x [
      | inl (inl e) ↦ more (inr (inl ((same_exactly o (value_of l) (value_of k) sound_l s).1 e)))
      | inl (inr y) ↦ more (inl y)
      | inr y ↦ more (inr (inr y))
    ]

pub opened : (l : Level) (es : SpelledEntries) → IsKeyAfter l es → level_bytes l ≡ opener l ++ spell_entries es
opened (a_key w left done) es e = ap (λ (x : SpelledEntries). head majors.Map w (entries_count done + suc left) ++ spell_entries x) (sym e)
opened (some_key done) es e = ap (λ (x : SpelledEntries). opener (some_key done) ++ spell_entries x) (sym e)
opened _ es e = absurd e

pub pairs_taken : (d : ℕ) (l : Level) (es : SpelledEntries) → IsKeyAfter l es → IsLevel d l → ArePairsTaken d es
pairs_taken d (a_key w left done) es e h = subst (ArePairsTaken d) (sym e) h.1
pairs_taken d (some_key done) es e h = subst (ArePairsTaken d) (sym e) h
pairs_taken d _ es e h = absurd e

-- where an earlier key of the map has its canonical bytes, it is the same
pub repeated_by_bytes : (o : KeyOrder) (d e : ℕ) (ls : List Level) (l : Level) (es : SpelledEntries) → IsKeyAfter l es → AreLevels d (l ∷ ls) → length (bytes_before (l ∷ ls)) < 2 ^ 63
    → (k : Spelling) → IsTaken e k → length (spell k) < 2 ^ 63 → HasKey (canonical_entries o (entries_of es)) (canonical o (value_of k)) → IsRepeated (keys_onto [] es) k
repeated_by_bytes o d e ls l es following levels short k i key_short held =
    let left = d - suc (length ls) in
    let sound_k = sound (value_of k) (in_range_of k i.spelled (omega (arith, key_short))) (valid_of k 0 (i.clean 0)) in
    repeated_in o left es [] k (pairs_taken left l es following levels.1) (omega (arith, short, ap length (opened l es following), length-append (bytes_before ls) (level_bytes l), length-append (opener l) (spell_entries es))) sound_k (inl held)
