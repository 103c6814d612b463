-- How a complete item changes the containers around it.
use Rattle.std.proofs.Common.{◌≡◌, ◌≢◌, ℕ, suc, ◌+◌, ◌-◌, ◌<◌, ◌≤◌, List, [], ◌∷◌, ◌++◌, length, refl, sym, ap, ◌∙◌, subst, inl, inr, arith, append_assoc, length-append}
use Rattle.cbor_head.specs.Prelude.{head, Rules, OfKey, Complains, Spelling, Spellings, SpelledEntries, array, a_map, tag, no_spellings, a_spelling, no_entries, entry, spell, spell_all, spell_entries, spellings_count, entries_count, IsSpelled, depth}
use Rattle.cbor_head.specs.declared.major.Major.TheVariants.{Array, Map, Tag}
use Rattle.cbor_head.specs.declared.width.Width.{Width, TheVariants.Indefinite}
use Rattle.theory_verdicts.specs.Frame.{with_all, with_entries, keys_onto}
use Rattle.theory_verdicts.specs.SoFar.{IsArraySoFar, IsMapSoFar, array_bytes, map_bytes}
use Rattle.theory_verdicts.proofs.Frames.{count_with, spelled_with, depth_with, entries_with, spelled_entries_with, depth_entries_with, members_split, entries_split}
use Rattle.theory_verdicts.proofs.Loops.{array_bytes-more, array_bytes-whole, map_bytes-more, map_bytes-whole}
use Rattle.theory_verdicts.specs.Path.{Level, a_member, a_key, a_value, tagged, level_bytes, IsValueExpected, bytes_before, AreClean, HasEnded}
use Rattle.theory_verdicts.{proofs.Members.closes, proofs.Judged.array_whole, proofs.Judged.map_whole, specs.Judged.Never}

-- ---- what came is one more

abbrev pub more_members : Spellings → Spelling → Spellings
more_members done s = with_all done (a_spelling s no_spellings)

abbrev pub more_pairs : SpelledEntries → Spelling → Spelling → SpelledEntries
more_pairs done k v = with_entries done (entry k v no_entries)

module _ (r : Rules) (at d : ℕ) (w : Width) (n : ℕ) where
  array_more : (done : Spellings) (s : Spelling) → IsArraySoFar r at d w n done → IsSpelled s → depth s ≤ d → Never (Complains r (at + length (array_bytes w n done)) s) → IsArraySoFar r at d w n (more_members done s)
  array_more done s h i l none =
      let to = at + length (array_bytes w n done) in
      let there : to ≡ at + length (head Array w n) + length (spell_all done) = omega (arith, length-append (head Array w n) (spell_all done)) in
      record {
        holds = h.holds;
        spelled = spelled_with done (a_spelling s no_spellings) h.spelled (i, tt);
        within = omega (arith, h.within, l, depth_with done (a_spelling s no_spellings));
        head_clean = h.head_clean;
        clean = λ c g. elim (members_split done (a_spelling s no_spellings) r (OfKey r.keys) (at + length (head Array w n)) to c there g) [ inl x ↦ h.clean c x | inr (inl x) ↦ none c x | inr (inr x) ↦ absurd x ];
      }

  map_more : (done : SpelledEntries) (k v : Spelling) → IsValueExpected r at d w n done k → IsSpelled v → depth v ≤ d → Never (Complains r (at + length (map_bytes w n done ++ spell k)) v) → IsMapSoFar r at d w n (more_pairs done k v)
  map_more done k v h i l none =
      let to = at + length (map_bytes w n done) in
      let there : to ≡ at + length (head Map w n) + length (spell_entries done) = omega (arith, length-append (head Map w n) (spell_entries done)) in
      let following : to + length (spell k) ≡ at + length (map_bytes w n done ++ spell k) = omega (arith, length-append (map_bytes w n done) (spell k)) in
      record {
        holds = h.so_far.holds;
        spelled = spelled_entries_with done (entry k v no_entries) h.so_far.spelled (h.spelled, i, tt);
        within = omega (arith, h.so_far.within, h.within, l, depth_entries_with done (entry k v no_entries));
        head_clean = h.so_far.head_clean;
        clean = λ c g. elim (entries_split done (entry k v no_entries) [] r (OfKey r.keys) (at + length (head Map w n)) to c there g) [
          | inl x ↦ h.so_far.clean c x
          | inr (inl x) ↦ h.clean c x
          | inr (inr (inl x)) ↦ h.fits c x
          | inr (inr (inr (inl x))) ↦ none c (subst (λ (m : ℕ). Complains r m v c) following x)
          | inr (inr (inr (inr x))) ↦ absurd x
        ];
      }

-- ---- numbers and places

pub member_count : (done : Spellings) (s : Spelling) (left : ℕ) → spellings_count done + suc (suc left) ≡ spellings_count (more_members done s) + suc left
member_count done s left = omega (arith, count_with done (a_spelling s no_spellings))

pub pair_count : (done : SpelledEntries) (k v : Spelling) (left : ℕ) → entries_count done + suc (suc left) ≡ entries_count (more_pairs done k v) + suc left
pair_count done k v left = omega (arith, entries_with done (entry k v no_entries))

pub last_member : (done : Spellings) (s : Spelling) → spellings_count (more_members done s) ≡ spellings_count done + 1
last_member done s = omega (arith, count_with done (a_spelling s no_spellings))

pub last_pair : (done : SpelledEntries) (k v : Spelling) → entries_count (more_pairs done k v) ≡ entries_count done + 1
last_pair done k v = omega (arith, entries_with done (entry k v no_entries))

-- the bytes after the item, if those of the innermost container follow it
bytes_on : (ls : List Level) (x y z : List ℕ) → y ≡ x ++ z → bytes_before ls ++ y ≡ (bytes_before ls ++ x) ++ z
bytes_on ls x y z e = ap (λ (u : List ℕ). bytes_before ls ++ u) e ∙ sym (append_assoc (bytes_before ls) x z)

module _ (r : Rules) (d : ℕ) (ls : List Level) where
  clean_in : (l : Level) (s : Spelling) → HasEnded r d (l ∷ ls) s → Never (Complains r (length (bytes_before ls) + length (level_bytes l)) s)
  clean_in l s h = subst (λ (n : ℕ). Never (Complains r n s)) (length-append (bytes_before ls) (level_bytes l)) h.clean

  -- ---- another is expected

  pub member_next : (w : Width) (left : ℕ) (done : Spellings) (s : Spelling) → HasEnded r d (a_member w (suc left) done ∷ ls) s → AreClean r d (a_member w left (more_members done s) ∷ ls)
  member_next w left done s h =
      let at = length (bytes_before ls) in
      let n = spellings_count done + suc (suc left) in
      let low : depth s ≤ d - suc (length ls) = h.within in (
        h.around.0,
        subst (λ (m : ℕ). IsArraySoFar r at (d - suc (length ls)) w m (more_members done s)) (member_count done s left) (array_more r at (d - suc (length ls)) w n done s h.around.1 h.spelled low (clean_in (a_member w (suc left) done) s h)),
        h.around.2,
      )

  pub member_bytes : (w : Width) (left : ℕ) (done : Spellings) (s : Spelling) → bytes_before (a_member w left (more_members done s) ∷ ls) ≡ bytes_before (a_member w (suc left) done ∷ ls) ++ spell s
  member_bytes w left done s =
      let n = spellings_count done + suc (suc left) in
      bytes_on ls (array_bytes w n done) (level_bytes (a_member w left (more_members done s))) (spell s)
      (ap (λ (m : ℕ). array_bytes w m (more_members done s)) (sym (member_count done s left)) ∙ array_bytes-more w n done s)

  pub key_next : (w : Width) (left : ℕ) (done : SpelledEntries) (k : Spelling) → HasEnded r d (a_key w left done ∷ ls) k → Never (OfKey r.keys (length (bytes_before (a_key w left done ∷ ls))) (keys_onto [] done) k)
      → AreClean r d (a_value w left done k ∷ ls)
  key_next w left done k h fits = (
    h.around.0,
    record {
      so_far = h.around.1;
      spelled = h.spelled;
      within = h.within;
      clean = clean_in (a_key w left done) k h;
      fits = subst (λ (n : ℕ). Never (OfKey r.keys n (keys_onto [] done) k)) (length-append (bytes_before ls) (level_bytes (a_key w left done))) fits;
    },
    h.around.2,
  )

  pub key_bytes : (w : Width) (left : ℕ) (done : SpelledEntries) (k : Spelling) → bytes_before (a_value w left done k ∷ ls) ≡ bytes_before (a_key w left done ∷ ls) ++ spell k
  key_bytes w left done k = bytes_on ls (level_bytes (a_key w left done)) (level_bytes (a_value w left done k)) (spell k) refl

  pub value_next : (w : Width) (left : ℕ) (done : SpelledEntries) (k v : Spelling) → HasEnded r d (a_value w (suc left) done k ∷ ls) v → AreClean r d (a_key w left (more_pairs done k v) ∷ ls)
  value_next w left done k v h =
      let at = length (bytes_before ls) in
      let n = entries_count done + suc (suc left) in
      let low : depth v ≤ d - suc (length ls) = h.within in (
        h.around.0,
        subst (λ (m : ℕ). IsMapSoFar r at (d - suc (length ls)) w m (more_pairs done k v)) (pair_count done k v left)
            (map_more r at (d - suc (length ls)) w n done k v h.around.1 h.spelled low (clean_in (a_value w (suc left) done k) v h)),
        h.around.2,
      )

  pub value_bytes : (w : Width) (left : ℕ) (done : SpelledEntries) (k v : Spelling) → bytes_before (a_key w left (more_pairs done k v) ∷ ls) ≡ bytes_before (a_value w (suc left) done k ∷ ls) ++ spell v
  value_bytes w left done k v =
      let n = entries_count done + suc (suc left) in
      bytes_on ls (level_bytes (a_value w (suc left) done k)) (level_bytes (a_key w left (more_pairs done k v))) (spell v)
      (ap (λ (m : ℕ). map_bytes w m (more_pairs done k v)) (sym (pair_count done k v left)) ∙ map_bytes-more w n done k v)

  -- ---- the container ends with it

  below : (l : Level) → AreClean r d (l ∷ ls) → suc (d - suc (length ls)) ≡ d - length ls
  below l h = let less : length ls < d = h.0 in omega (arith, less)

  pub array_ends : (w : Width) (done : Spellings) (s : Spelling) → HasEnded r d (a_member w 0 done ∷ ls) s → HasEnded r d ls (array w (more_members done s))
  array_ends w done s h =
      let at = length (bytes_before ls) in
      let n = spellings_count done + 1 in
      let so_far = array_more r at (d - suc (length ls)) w n done s h.around.1 h.spelled h.within (clean_in (a_member w 0 done) s h) in
      let whole = array_whole w (more_members done s) r at (d - suc (length ls)) (subst (λ (m : ℕ). IsArraySoFar r at (d - suc (length ls)) w m (more_members done s)) (sym (last_member done s)) so_far) in
      record { around = h.around.2; spelled = whole.0; within = omega (arith, whole.1, below (a_member w 0 done) h.around); clean = whole.2 }

  pub array_bytes_end : (w : Width) (done : Spellings) (s : Spelling) → w ≢ Indefinite → bytes_before ls ++ spell (array w (more_members done s)) ≡ bytes_before (a_member w 0 done ∷ ls) ++ spell s
  array_bytes_end w done s definite =
      let n = spellings_count done + 1 in
      bytes_on ls (array_bytes w n done) (spell (array w (more_members done s))) (spell s) (array_bytes-whole w n (more_members done s) (closes w definite) (last_member done s) ∙ array_bytes-more w n done s)

  pub map_ends : (w : Width) (done : SpelledEntries) (k v : Spelling) → HasEnded r d (a_value w 0 done k ∷ ls) v → HasEnded r d ls (a_map w (more_pairs done k v))
  map_ends w done k v h =
      let at = length (bytes_before ls) in
      let n = entries_count done + 1 in
      let so_far = map_more r at (d - suc (length ls)) w n done k v h.around.1 h.spelled h.within (clean_in (a_value w 0 done k) v h) in
      let whole = map_whole w (more_pairs done k v) r at (d - suc (length ls)) (subst (λ (m : ℕ). IsMapSoFar r at (d - suc (length ls)) w m (more_pairs done k v)) (sym (last_pair done k v)) so_far) in
      record { around = h.around.2; spelled = whole.0; within = omega (arith, whole.1, below (a_value w 0 done k) h.around); clean = whole.2 }

  pub map_bytes_end : (w : Width) (done : SpelledEntries) (k v : Spelling) → w ≢ Indefinite → bytes_before ls ++ spell (a_map w (more_pairs done k v)) ≡ bytes_before (a_value w 0 done k ∷ ls) ++ spell v
  map_bytes_end w done k v definite =
      let n = entries_count done + 1 in
      bytes_on ls (level_bytes (a_value w 0 done k)) (spell (a_map w (more_pairs done k v))) (spell v) (map_bytes-whole w n (more_pairs done k v) (closes w definite) (last_pair done k v) ∙ map_bytes-more w n done k v)

  pub tag_ends : (w : Width) (n : ℕ) (s : Spelling) → HasEnded r d (tagged w n ∷ ls) s → HasEnded r d ls (tag w n s)
  tag_ends w n s h =
      record {
        around = h.around.2;
        spelled = (h.around.1.0, h.spelled);
        within = omega (arith, h.within, below (tagged w n) h.around);
        clean = λ c g. elim g [ inl x ↦ h.around.1.1 c x | inr x ↦ clean_in (tagged w n) s h c x ];
      }

  pub tag_bytes_end : (w : Width) (n : ℕ) (s : Spelling) → bytes_before ls ++ spell (tag w n s) ≡ bytes_before (tagged w n ∷ ls) ++ spell s
  tag_bytes_end w n s = bytes_on ls (head Tag w n) (spell (tag w n s)) (spell s) refl
