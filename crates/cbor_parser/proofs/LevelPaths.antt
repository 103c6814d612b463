-- The open containers of a valid item so far, of which no map has two keys that are the same, as the path to the item that is expected.
use Rattle.std.proofs.Common.{◌≡◌, ℕ, suc, ◌+◌, ◌-◌, ◌^◌, ◌<◌, true, List, [], ◌∷◌, ◌++◌, length, refl, sym, ap, ◌∙◌, subst, inl, inr, arith, Option, Some, ◌≢◌, length-append}
use Rattle.std.proofs.lemmas.List.{map-append}
use Rattle.cbor_head.specs.Prelude.{Pair, canonical, canonical_entries, plain, Complaint, complaint, IsRepeated, OfKey, head, Spelling, SpelledEntries, no_entries, entry, spell, spell_entries, entries_count, HoldsOrIndefinite, value_of, entries_of}
use Rattle.cbor_head.specs.declared.major.Major.TheVariants as majors
use Rattle.cbor_head.specs.declared.{order.KeyOrder.KeyOrder, reason.Reason.TheVariants.RepeatedKey, width.Width.Width, width.Width.TheVariants.Indefinite}
use Rattle.theory_values.{specs.MemberComplaints.ComplainsInEntries, specs.Parts.pair, proofs.Keys.distinct_exactly}
use Rattle.cbor_builder.specs.Built.{keys_so_far, AreAllDifferent, AreOpenKeysDifferent}
use Rattle.cbor_builder.proofs.{KeysSoFar.different_distinct, Neighbours.keys}
use Rattle.theory_verdicts.specs.Levels.{IsTaken, ArePairsTaken, Level, a_member, a_key, a_value, some_member, some_key, some_value, tagged, level_bytes, IsLevel, AreLevels, bytes_before}
use Rattle.theory_verdicts.proofs.Levels.{no-count, spelled-all, within-all, clean-all, pairs-spelled, pairs-within, pairs-more, pairs-clean}
use Rattle.theory_verdicts.specs.Path as path
use Rattle.theory_verdicts.specs.Path.{IsClean, AreClean, IsKeyExpectedIn, MayBreak}
use Rattle.theory_verdicts.proofs.LevelFrames.{path_of, paths_of, paths_length, paths_bytes}
use Rattle.theory_verdicts.specs.{Frame.with_entries, Frame.keys_onto, Given.level_open, Given.opens, Judged.IsJudged, Judged.Never}
use Rattle.theory_verdicts.{specs.SoFar.IsMapSoFar, specs.SoFar.map_bytes, proofs.Frames.entries_right, proofs.Frames.spell_entries_with}
use Rattle.theory_verdicts.proofs.{Given.pairs-valid, Given.entries-more, Heads.open_or, Judged.zero_item, Valid.in_range_entries}
use Rattle.theory_verdicts.proofs.PathLevels.{judged_path, judged_key_path}
use Rattle.cbor_parser.specs.declared.container.Expected.TheVariants.{Item, Key, Value}
use Rattle.cbor_parser.specs.inner.OpenContainer.{bytes_after_head, cell_of, cells_of, counted}
use Rattle.cbor_parser.specs.inner.OpenContainer.{Cell}
use Rattle.cbor_parser.{specs.Sink.IsKeyAfter, proofs.GivenParts.cell-is}

-- ---- keys

-- pairs whose keys have different bytes have no complaint
module _ (o : KeyOrder) (d : ℕ) (es : SpelledEntries) (h : ArePairsTaken d es) (short : length (spell_entries es) < 2 ^ 64) where
  pairs_quiet : AreAllDifferent (keys (canonical_entries o (entries_of es))) → (at : ℕ) → Never (ComplainsInEntries plain at [] es)
  pairs_quiet apart at c x =
      let distinct = (distinct_exactly o (entries_of es) (in_range_entries es (pairs-spelled d es h) short) (pairs-valid d es h)).1 (different_distinct _ apart) in
      pairs-clean d es [] at h distinct (λ b m k v z s. m) c x

entries_left : (es fs : SpelledEntries) (ks : List Spelling) (at : ℕ) (c : Complaint) → ComplainsInEntries plain at ks es c → ComplainsInEntries plain at ks (with_entries es fs) c
entries_left no_entries fs ks at c h = absurd h
entries_left (entry k v es) fs ks at c (inl h) = inl h
entries_left (entry k v es) fs ks at c (inr (inl h)) = inr (inl h)
entries_left (entry k v es) fs ks at c (inr (inr (inl h))) = inr (inr (inl h))
entries_left (entry k v es) fs ks at c (inr (inr (inr h))) = inr (inr (inr (entries_left es fs (k ∷ ks) _ c h)))

-- and one that waits for its content
module _ (o : KeyOrder) (d : ℕ) (es : SpelledEntries) (k : Spelling) (h : ArePairsTaken d es) (i : IsTaken d k) (short : length (spell_entries es) + length (spell k) < 2 ^ 63)
    (apart : AreAllDifferent (keys (canonical_entries o (entries_of es)) ++ canonical o (value_of k) ∷ [])) where
  abbrev more : SpelledEntries
  more = with_entries es (entry k zero_item no_entries)

  more_quiet : (at : ℕ) → Never (ComplainsInEntries plain at [] more)
  more_quiet =
      let z : 0 < 24 = omega arith in
      let zero_taken : IsTaken d zero_item = record { spelled = z; within = omega arith; clean = λ at c x. cc x.0 } in
      let size : length (spell_entries more) < 2 ^ 64 =
      omega (arith, short, ap length (spell_entries_with es (entry k zero_item no_entries)), length-append (spell_entries es) (spell_entries (entry k zero_item no_entries)), length-append (spell k ++ spell zero_item) [], length-append (spell k) (spell zero_item)) in
      let all = ap keys (entries-more o es k zero_item) ∙ map-append (λ (p : Pair). p.key) (canonical_entries o (entries_of es)) (pair (canonical o (value_of k)) (canonical o (value_of zero_item)) ∷ []) in
      pairs_quiet o d more (pairs-more d es k zero_item h i zero_taken) size (subst AreAllDifferent (sym all) apart)

  before_quiet : (at : ℕ) → Never (ComplainsInEntries plain at [] es)
  before_quiet at c x = more_quiet at c (entries_left es (entry k zero_item no_entries) [] at c x)

  key_quiet : (at to : ℕ) → to ≡ at + length (spell_entries es) → Never (OfKey plain.keys to (keys_onto [] es) k)
  key_quiet at to e c x = more_quiet at c (entries_right es (entry k zero_item no_entries) [] plain (OfKey plain.keys) at to c e (inr (inl x)))

-- ---- a level

map_so_far : (at d : ℕ) (w : Width) (n : ℕ) (done : SpelledEntries) → HoldsOrIndefinite w n → ArePairsTaken d done → ((at : ℕ) → Never (ComplainsInEntries plain at [] done)) → IsMapSoFar plain at d w n done
map_so_far at d w n done holds h quiet = record { holds = holds; spelled = pairs-spelled d done h; within = pairs-within d done h; head_clean = no-count at majors.Map w n; clean = quiet _ }

value_expected : (o : KeyOrder) (at d : ℕ) (w : Width) (n : ℕ) (done : SpelledEntries) (k : Spelling) → HoldsOrIndefinite w n → ArePairsTaken d done → IsTaken d k → length (map_bytes w n done ++ spell k) < 2 ^ 63
    → AreAllDifferent (keys (canonical_entries o (entries_of done)) ++ canonical o (value_of k) ∷ []) → path.IsValueExpected plain at d w n done k
value_expected o at d w n done k holds h i small apart =
    let size = length-append (head majors.Map w n) (spell_entries done) in
    let short : length (spell_entries done) + length (spell k) < 2 ^ 63 = omega (arith, small, size, length-append (map_bytes w n done) (spell k)) in
    record {
      so_far = map_so_far at d w n done holds h (before_quiet o d done k h i short apart);
      spelled = i.spelled;
      within = i.within;
      clean = i.clean _;
      fits = key_quiet o d done k h i short apart (at + length (head majors.Map w n)) _ (omega (arith, size));
    }

level_clean : (o : KeyOrder) (at d : ℕ) (l : Level) → IsLevel d l → length (level_bytes l) < 2 ^ 63 → AreAllDifferent (keys_so_far (level_open o l)) → IsClean plain at d (path_of l)
level_clean o at d (a_member w left done) h small apart =
    record { holds = open_or w _ h.0; spelled = spelled-all d done h.1; within = within-all d done h.1; head_clean = no-count at majors.Array w _; clean = clean-all d done _ h.1 }
level_clean o at d (some_member done) h small apart =
    record { holds = tt; spelled = spelled-all d done h; within = within-all d done h; head_clean = no-count at majors.Array Indefinite 0; clean = clean-all d done _ h }
level_clean o at d (a_key w left done) h small apart =
    let size = length-append (head majors.Map w (entries_count done + suc left)) (spell_entries done) in
    map_so_far at d w _ done (open_or w _ h.0) h.1 (pairs_quiet o d done h.1 (omega (arith, small, size)) apart)
level_clean o at d (some_key done) h small apart =
    let size = length-append (head majors.Map Indefinite 0) (spell_entries done) in
    map_so_far at d Indefinite _ done tt h (pairs_quiet o d done h (omega (arith, small, size)) apart)
level_clean o at d (a_value w left done k) h small apart = value_expected o at d w _ done k (open_or w _ h.0) h.1 h.2 small apart
level_clean o at d (some_value done k) h small apart = value_expected o at d Indefinite _ done k tt h.0 h.1 small apart
level_clean o at d (tagged w n) h small apart = (h, λ c x. cc x.0)

-- ---- all of them

pub paths_clean : (o : KeyOrder) (d : ℕ) (ls : List Level) → AreLevels d ls → length (bytes_before ls) < 2 ^ 63 → AreOpenKeysDifferent (opens o ls) → AreClean plain d (paths_of ls)
paths_clean o d [] h small apart = tt
paths_clean o d (l ∷ ls) h small apart =
    let size = length-append (bytes_before ls) (level_bytes l) in
    let count = paths_length ls in (
      omega (arith, h.0, count),
      subst (λ (n : ℕ). IsClean plain (length (path.bytes_before (paths_of ls))) (d - suc n) (path_of l)) (sym count) (level_clean o _ (d - suc (length ls)) l h.1 (omega (arith, small, size)) apart.0),
      paths_clean o d ls h.2 (omega (arith, small, size)) apart.1,
    )

-- what is found of the item that is expected is found of the whole
pub found_of_whole : (o : KeyOrder) (d : ℕ) (ls : List Level) (p : List ℕ) (found : Option Complaint) → AreLevels d ls → length (bytes_before ls) < 2 ^ 63 → AreOpenKeysDifferent (opens o ls)
    → IsJudged plain (length (bytes_before ls)) (d - length ls) p found → IsJudged plain 0 d (bytes_before ls ++ p) found
found_of_whole o d ls p found h small apart j =
    let ps = paths_of ls in
    let same = paths_bytes ls in
    subst (λ (x : List ℕ). IsJudged plain 0 d (x ++ p) found) same
    (judged_path plain d ps (paths_clean o d ls h small apart) p found
    (subst (λ (x : List ℕ). IsJudged plain (length x) (d - length ps) p found) (sym same) (subst (λ (n : ℕ). IsJudged plain (length (bytes_before ls)) (d - n) p found) (sym (paths_length ls)) j)))

key_path : (l : Level) (es : SpelledEntries) → IsKeyAfter l es → (w : Width) × (left : ℕ) × (path_of l ≡ path.a_key w left es)
key_path (a_key w left done) es e = (w, left, ap (path.a_key w left) (sym e))
key_path (some_key done) es e = (Indefinite, 0, ap (path.a_key Indefinite 0) (sym e))
key_path _ es e = absurd e

-- a key that is the same as an earlier one is the first complaint
pub repeat_of_whole : (o : KeyOrder) (d : ℕ) (ls : List Level) (l : Level) (es : SpelledEntries) → IsKeyAfter l es → AreLevels d (l ∷ ls) → length (bytes_before (l ∷ ls)) < 2 ^ 63 → AreOpenKeysDifferent (opens o (l ∷ ls))
    → (k : Spelling) → IsTaken (d - suc (length ls)) k → IsRepeated (keys_onto [] es) k
    → IsJudged plain 0 d (bytes_before (l ∷ ls) ++ spell k) (Some (complaint (length (bytes_before (l ∷ ls)) + length (spell k)) (length (bytes_before (l ∷ ls))) RepeatedKey))
repeat_of_whole o d ls l es following h small apart k i repeated =
    let (w, left, is) = key_path l es following in
    let ps = paths_of ls in
    let low = i.within in
    let same : path.bytes_before (path.a_key w left es ∷ ps) ≡ bytes_before (l ∷ ls) = ap (λ (x : path.Level). path.bytes_before (x ∷ ps)) (sym is) ∙ paths_bytes (l ∷ ls) in
    let around = subst (λ (x : path.Level). AreClean plain d (x ∷ ps)) is (paths_clean o d (l ∷ ls) h small apart) in
    subst (λ (x : List ℕ). IsJudged plain 0 d (x ++ spell k) (Some (complaint (length x + length (spell k)) (length x) RepeatedKey))) same
    (judged_key_path plain d w left es ps k _ (record { around = around; spelled = i.spelled; within = omega (arith, low, paths_length ls); clean = i.clean _ }) (repeated, refl))

-- ---- what is expected, by the cells

level_expected : (following : ℕ) (l : Level) (ls : List path.Level) → ((cell_of following l).expected ≡ Key → IsKeyExpectedIn (path_of l ∷ ls)) × (IsKeyExpectedIn (path_of l ∷ ls) → (cell_of following l).expected ≡ Key)
level_expected following (a_key w left done) ls = (λ e. tt, λ h. refl)
level_expected following (some_key done) ls = (λ e. tt, λ h. refl)
level_expected following _ ls = (λ e. absurd (cc e), λ h. absurd h)

breaks_level : (following d : ℕ) (l : Level) (ls : List path.Level) → IsLevel d l → MayBreak (path_of l ∷ ls) → ((cell_of following l).is_indefinite ≡ true) × ((cell_of following l).expected ≢ Value)
breaks_level following d (some_member done) ls h b = (refl, λ e. cc e)
breaks_level following d (some_key done) ls h b = (refl, λ e. cc e)
breaks_level following d (a_member Indefinite left done) ls h b = absurd h.0
breaks_level following d (a_key Indefinite left done) ls h b = absurd h.0
breaks_level following d _ ls h b = absurd b

module _ (n : ℕ) (top : Cell) (outer : List Cell) where
  pub path_expected : (ls : List Level) → top ∷ outer ≡ cells_of n ls → (top.expected ≡ Key → IsKeyExpectedIn (paths_of ls)) × (IsKeyExpectedIn (paths_of ls) → top.expected ≡ Key)
  path_expected [] e = let same : top ≡ counted Item 0 0 = cc in (λ expected. absurd (cc (ap (λ (x : Cell). x.expected) (sym same) ∙ expected)), λ h. absurd h)
  path_expected (l ∷ ls) e =
      let there = ap (λ (x : Cell). x.expected) (cell-is n l ls e) in
      let both = level_expected (bytes_after_head n ls l) l (paths_of ls) in
      (λ expected. both.0 (sym there ∙ expected), λ h. there ∙ both.1 h)

  pub breaks_path : (d : ℕ) (ls : List Level) → AreLevels d ls → top ∷ outer ≡ cells_of n ls → MayBreak (paths_of ls) → (top.is_indefinite ≡ true) × (top.expected ≢ Value)
  breaks_path d [] h e b = absurd b
  breaks_path d (l ∷ ls) h e b =
      let same = cell-is n l ls e in
      let found = breaks_level (bytes_after_head n ls l) (d - suc (length ls)) l (paths_of ls) h.1 b in
      (ap (λ (x : Cell). x.is_indefinite) same ∙ found.0, λ x. found.1 (ap (λ (y : Cell). y.expected) (sym same) ∙ x))
