-- A builder that is given an item's events: what it holds grows by each item that is complete.
use Rattle.std.proofs.Common.{◌≡◌, ℕ, zero, suc, ◌+◌, ◌-◌, ◌^◌, ◌<◌, ◌≤◌, List, [], ◌∷◌, ◌++◌, length, map, flat_map, refl, sym, ap, ap₂, ◌∙◌, subst, inl, inr, arith, append_assoc, append-nil, length-append}
use Rattle.cbor_head.specs.Prelude.{Holds, head, shortest_head, Entries, Pair, canonical, canonical_all, canonical_entries, in_order, Spelling, Spellings, SpelledEntries, array, a_map, tag, no_spellings, a_spelling, no_entries, entry, spell, spell_all, spell_entries, spellings_count, entries_count, HoldsOrIndefinite, value_of, values_of, entries_of}
use Rattle.cbor_head.specs.Value as value
use Rattle.cbor_head.specs.declared.major.Major.TheVariants as majors
use Rattle.cbor_head.specs.declared.{order.KeyOrder.KeyOrder, width.Width.Width, width.Width.TheVariants.Indefinite}
use Rattle.theory_values.specs.Parts.{an_array, plain as a_plain, a_map as an_open_map, pair, give, closed}
use Rattle.theory_values.{proofs.Counts.values_count-of, specs.Pairs.HasDistinctBytes, specs.Pairs.AreKeysValid, proofs.Keys.distinct_exactly}
use Rattle.theory_verdicts.specs.Levels.{settle, IsTaken, AreTaken, ArePairsTaken, Level, a_member, a_key, a_value, some_member, some_key, some_value, tagged, frame, AreLevels, bytes_before}
use Rattle.theory_verdicts.specs.Given.{AgreesAt, opens, IsFull}
use Rattle.theory_verdicts.proofs.Levels.{no-count, spelled-all, within-all, clean-all, taken-more, count-more, pairs-spelled, pairs-within, pairs-more, pair-count-more, pairs-clean, array-spelled, map-spelled, pairs-shorter}
use Rattle.theory_verdicts.{specs.Place.counted, specs.Place.close, specs.Frame.with_all, specs.Frame.with_entries, proofs.Heads.open_or}
use Rattle.theory_verdicts.proofs.{Loops.array_bytes-more, Loops.map_bytes-more, Valid.in_range_entries, Valid.valid_of}

-- ---- what is complete, in a builder

pub pairs-valid : (d : ℕ) (es : SpelledEntries) → ArePairsTaken d es → AreKeysValid (entries_of es)
pairs-valid d no_entries h = tt
pairs-valid d (entry k v es) h = (valid_of k 0 (h.0.clean 0), pairs-valid d es h.2)

canonical-more : (o : KeyOrder) (ss : Spellings) (s : Spelling) → canonical_all o (values_of (with_all ss (a_spelling s no_spellings))) ≡ canonical_all o (values_of ss) ++ canonical o (value_of s)
canonical-more o no_spellings s = append-nil (canonical o (value_of s))
canonical-more o (a_spelling x ss) s =
    ap (λ (y : List ℕ). canonical o (value_of x) ++ y) (canonical-more o ss s) ∙ sym (append_assoc (canonical o (value_of x)) (canonical_all o (values_of ss)) (canonical o (value_of s)))

pub entries-more : (o : KeyOrder) (es : SpelledEntries) (k v : Spelling)
    → canonical_entries o (entries_of (with_entries es (entry k v no_entries))) ≡ canonical_entries o (entries_of es) ++ pair (canonical o (value_of k)) (canonical o (value_of v)) ∷ []
entries-more o no_entries k v = refl
entries-more o (entry x y es) k v = ap (λ (ps : List Pair). pair (canonical o (value_of x)) (canonical o (value_of y)) ∷ ps) (entries-more o es k v)

-- ---- containers that are full

pub full-array : (o : KeyOrder) (d e : ℕ) (w : Width) (ss : Spellings) (n : ℕ) (bs : List ℕ) → n ≡ spellings_count ss → bs ≡ canonical_all o (values_of ss) → AreTaken e ss → HoldsOrIndefinite w (spellings_count ss) → suc e ≤ d
    → IsFull o d (an_array n bs) (array w ss)
full-array o d e w ss n bs count are h holds space = record {
  spelled = (holds, spelled-all e ss h);
  within = omega (arith, within-all e ss h, space);
  clean = λ u at c x. elim x [ inl y ↦ no-count at majors.Array w (spellings_count ss) c y | inr y ↦ clean-all e ss _ h c y ];
  canonical_is = ap₂ (λ (k : ℕ) (ys : List ℕ). shortest_head majors.Array k ++ ys) (count ∙ sym (values_count-of ss)) are;
  held = tt;
  container = λ other os. tt;
}

entries-length : (o : KeyOrder) (es : Entries) → length (canonical_entries o es) ≡ value.entries_count es
entries-length o value.no_entries = refl
entries-length o (value.entry k v es) = ap suc (entries-length o es)

pub full-map : (o : KeyOrder) (d e : ℕ) (w : Width) (es : SpelledEntries) (ps : List Pair) → ps ≡ canonical_entries o (entries_of es) → ArePairsTaken e es → HoldsOrIndefinite w (entries_count es) → suc e ≤ d
    → length (spell_entries es) < 2 ^ 64 → IsFull o d (an_open_map ps) (a_map w es)
full-map o d e w es ps are h holds space short = record {
  spelled = (holds, pairs-spelled e es h);
  within = omega (arith, pairs-within e es h, space);
  clean = λ u at c x.
      let distinct = (distinct_exactly o (entries_of es) (in_range_entries es (pairs-spelled e es h) short) (pairs-valid e es h)).1 (subst HasDistinctBytes are u) in
      elim x [ inl y ↦ no-count at majors.Map w (entries_count es) c y | inr y ↦ pairs-clean e es [] _ h distinct (λ b m k v z s. m) c y ];
  canonical_is = ap (λ (qs : List Pair). closed o (an_open_map qs)) are
      ∙ ap (λ (k : ℕ). shortest_head majors.Map k ++ flat_map (λ (p : Pair). p.key ++ p.value) (in_order o (canonical_entries o (entries_of es)))) (entries-length o (entries_of es));
  held = ap an_open_map are;
  container = λ other os. tt;
}

full-tag : (o : KeyOrder) (d e : ℕ) (w : Width) (n : ℕ) (s : Spelling) → Holds w n → IsTaken e s → suc e ≤ d → IsFull o d (a_plain (shortest_head majors.Tag n ++ canonical o (value_of s))) (tag w n s)
full-tag o d e w n s holds h space = record {
  spelled = (holds, h.spelled);
  within = omega (arith, h.within, space);
  clean = λ u at c x. elim x [ inl y ↦ cc y.0 | inr y ↦ h.clean _ c y ];
  canonical_is = refl;
  held = tt;
  container = λ other os. tt;
}

-- ---- an item is complete

module _ (o : KeyOrder) (d : ℕ) where
  pub settled : (ls : List Level) (s : Spelling) → AreLevels d ls → IsTaken (d - length ls) s → length (bytes_before ls ++ spell s) < 2 ^ 64
      → AgreesAt o d (bytes_before ls ++ spell s) (close (map frame ls)) (give (canonical o (value_of s)) (opens o ls)) (length ls) (settle ls s)
  settled [] s h i short = (record { spelled = i.spelled; within = omega (arith, i.within); clean = i.clean }, refl, refl, refl, refl)
  settled (a_member w zero done ∷ ls) s h i short =
      let before = bytes_before ls in
      let one = with_all done (a_spelling s no_spellings) in (
        h.2,
        append_assoc before (head majors.Array w (spellings_count done + suc zero) ++ spell_all done) (spell s) ∙ ap (λ (x : List ℕ). before ++ x) (array-spelled w _ done s h.1.0 refl),
        refl,
        (
          _,
          full-array o (d - length ls) (d - suc (length ls)) w one _ _ (sym (count-more done s)) (sym (canonical-more o done s)) (taken-more (d - suc (length ls)) done s h.1.1 i)
              (open_or w (spellings_count one) (subst (Holds w) (omega (arith, count-more done s)) h.1.0)) (omega (arith, h.0)),
          refl,
        ),
        refl,
      )
  settled (a_member w (suc left) done ∷ ls) s h i short =
      let before = bytes_before ls in
      let one = with_all done (a_spelling s no_spellings) in
      let more = count-more done s in
      let count : spellings_count done + suc (suc left) ≡ spellings_count one + suc left = omega (arith, more) in (
        (h.0, (subst (Holds w) count h.1.0, taken-more (d - suc (length ls)) done s h.1.1 i), h.2),
        append_assoc before (head majors.Array w (spellings_count done + suc (suc left)) ++ spell_all done) (spell s)
            ∙ ap (λ (x : List ℕ). before ++ x) (sym (array_bytes-more w (spellings_count done + suc (suc left)) done s) ∙ ap (λ (n : ℕ). head majors.Array w n ++ spell_all one) count),
        refl,
        ap₂ (λ (n : ℕ) (bs : List ℕ). an_array n bs ∷ opens o ls) (sym more) (sym (canonical-more o done s)),
        refl,
      )
  settled (some_member done ∷ ls) s h i short =
      let before = bytes_before ls in (
        (h.0, taken-more (d - suc (length ls)) done s h.1 i, h.2),
        append_assoc before (head majors.Array Indefinite 0 ++ spell_all done) (spell s) ∙ ap (λ (x : List ℕ). before ++ x) (sym (array_bytes-more Indefinite 0 done s)),
        refl,
        ap₂ (λ (n : ℕ) (bs : List ℕ). an_array n bs ∷ opens o ls) (sym (count-more done s)) (sym (canonical-more o done s)),
        refl,
      )
  settled (a_key w left done ∷ ls) s h i short =
      ((h.0, (h.1.0, h.1.1, i), h.2), append_assoc (bytes_before ls) (head majors.Map w (entries_count done + suc left) ++ spell_entries done) (spell s), refl, refl, refl)
  settled (some_key done ∷ ls) s h i short =
      ((h.0, (h.1, i), h.2), append_assoc (bytes_before ls) (head majors.Map Indefinite 0 ++ spell_entries done) (spell s), refl, refl, refl)
  settled (a_value w zero done k ∷ ls) s h i short =
      let before = bytes_before ls in
      let one = with_entries done (entry k s no_entries) in
      let all = append_assoc before ((head majors.Map w (entries_count done + suc zero) ++ spell_entries done) ++ spell k) (spell s) ∙ ap (λ (x : List ℕ). before ++ x) (map-spelled w _ done k s h.1.0 refl) in (
        h.2,
        all,
        refl,
        (
          _,
          full-map o (d - length ls) (d - suc (length ls)) w one _ (sym (entries-more o done k s)) (pairs-more (d - suc (length ls)) done k s h.1.1 h.1.2 i)
              (open_or w (entries_count one) (subst (Holds w) (omega (arith, pair-count-more done k s)) h.1.0)) (omega (arith, h.0))
              (omega (arith, short, ap length all, length-append before (spell (a_map w one)), pairs-shorter w one)),
          refl,
        ),
        refl,
      )
  settled (a_value w (suc left) done k ∷ ls) s h i short =
      let before = bytes_before ls in
      let one = with_entries done (entry k s no_entries) in
      let more = pair-count-more done k s in
      let count : entries_count done + suc (suc left) ≡ entries_count one + suc left = omega (arith, more) in
      let two : suc left + suc left ≡ suc (suc (left + left)) = omega arith in (
        (h.0, (subst (Holds w) count h.1.0, pairs-more (d - suc (length ls)) done k s h.1.1 h.1.2 i), h.2),
        append_assoc before ((head majors.Map w (entries_count done + suc (suc left)) ++ spell_entries done) ++ spell k) (spell s)
            ∙ ap (λ (x : List ℕ). before ++ x) (sym (map_bytes-more w (entries_count done + suc (suc left)) done k s) ∙ ap (λ (n : ℕ). head majors.Map w n ++ spell_entries one) count),
        ap (λ (n : ℕ). close (counted n ∷ map frame ls)) two,
        ap (λ (ps : List Pair). an_open_map ps ∷ opens o ls) (sym (entries-more o done k s)),
        refl,
      )
  settled (some_value done k ∷ ls) s h i short =
      let before = bytes_before ls in
      let one = with_entries done (entry k s no_entries) in (
        (h.0, pairs-more (d - suc (length ls)) done k s h.1.0 h.1.1 i, h.2),
        append_assoc before ((head majors.Map Indefinite 0 ++ spell_entries done) ++ spell k) (spell s) ∙ ap (λ (x : List ℕ). before ++ x) (sym (map_bytes-more Indefinite 0 done k s)),
        refl,
        ap (λ (ps : List Pair). an_open_map ps ∷ opens o ls) (sym (entries-more o done k s)),
        refl,
      )
  settled (tagged w n ∷ ls) s h i short = (
    h.2,
    append_assoc (bytes_before ls) (head majors.Tag w n) (spell s),
    refl,
    (_, full-tag o (d - length ls) (d - suc (length ls)) w n s h.1 i (omega (arith, h.0)), refl),
    refl,
  )
