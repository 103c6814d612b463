-- The open containers with what is complete in them, as frames around the item that is expected.
use Rattle.std.proofs.Common.{◌≡◌, ℕ, suc, ◌+◌, ◌-◌, ◌≤◌, List, [], ◌∷◌, ◌++◌, length, refl, sym, ap, ap₂, ◌∙◌, subst, inl, inr, arith, ◌↔◌, append_assoc}
use Rattle.cbor_head.specs.Prelude.{IsBeginning, HoldsOrIndefinite, Spelling, Spellings, SpelledEntries, no_entries, entry, spell, spellings_count, entries_count, IsSpelled, depth, plain}
use Rattle.cbor_head.specs.declared.major.Major.TheVariants as majors
use Rattle.cbor_head.specs.declared.width.Width.{Width, TheVariants.Indefinite}
use Rattle.theory_automaton.proofs.Beginnings.{shorter}
use Rattle.theory_verdicts.specs.Frame as frames
use Rattle.theory_verdicts.specs.Frame.{Frame, IsFrame, depth_beside}
use Rattle.theory_verdicts.specs.OpenMaps.{OfClosed, ComplainsWithin, before_all, AreOpen, ArePath}
use Rattle.theory_verdicts.proofs.Judged.{zero_item, zero_spelled, zeros, zeros_count, zeros_spelled, zeros_flat, zero_pairs, pairs_count, pairs_spelled, pairs_flat}
use Rattle.theory_verdicts.proofs.OpenSteps.{none_open, opens as one_opens}
use Rattle.theory_verdicts.specs.Levels.{IsTaken, AreTaken, ArePairsTaken, Level, a_member, a_key, a_value, some_member, some_key, some_value, tagged, level_bytes, IsLevel, AreLevels, bytes_before}
use Rattle.theory_verdicts.proofs.Levels.{no-count, spelled-all, within-all, clean-all, pairs-spelled, pairs-within}
use Rattle.theory_verdicts.specs.Kinds.{plug_all, IsKeyExpected, IsKeyExpectedIn}
use Rattle.theory_verdicts.proofs.KindFrames.{IsAround, spell_along, item_along}
use Rattle.theory_verdicts.specs.Path as walk
use Rattle.theory_verdicts.proofs.PathLevels.{frame_of as path_frame}
use Rattle.theory_verdicts.proofs.PathKinds.{frames as all_frames, frames_length, frames_bytes, expected_in as key_expected}
use Rattle.theory_verdicts.{specs.Judged.Never, proofs.Heads.open_or}

-- ---- the same containers as a path for any rules

abbrev pub path_of : Level → walk.Level
path_of (a_member w left done) = walk.a_member w left done
path_of (a_key w left done) = walk.a_key w left done
path_of (a_value w left done k) = walk.a_value w left done k
path_of (some_member done) = walk.a_member Indefinite 0 done
path_of (some_key done) = walk.a_key Indefinite 0 done
path_of (some_value done k) = walk.a_value Indefinite 0 done k
path_of (tagged w n) = walk.tagged w n

abbrev pub paths_of : List Level → List walk.Level
paths_of [] = []
paths_of (l ∷ ls) = path_of l ∷ paths_of ls

pub paths_length : (ls : List Level) → length (paths_of ls) ≡ length ls
paths_length [] = refl
paths_length (l ∷ ls) = ap suc (paths_length ls)

same_bytes : (l : Level) → walk.level_bytes (path_of l) ≡ level_bytes l
same_bytes (a_member w left done) = refl
same_bytes _ = refl

pub paths_bytes : (ls : List Level) → walk.bytes_before (paths_of ls) ≡ bytes_before ls
paths_bytes [] = refl
paths_bytes (l ∷ ls) = ap₂ (λ (x y : List ℕ). x ++ y) (paths_bytes ls) (same_bytes l)

-- ---- one container

abbrev frame_of : Level → Frame
frame_of l = path_frame (path_of l)

-- each complete pair has no complaint within
quiet : (d : ℕ) (es : SpelledEntries) (at : ℕ) → ArePairsTaken d es → Never (ComplainsWithin plain at es)
quiet d no_entries at h c x = x
quiet d (entry k v es) at h c (inl x) = h.0.clean at c x
quiet d (entry k v es) at h c (inr (inl x)) = h.1.clean _ c x
quiet d (entry k v es) at h c (inr (inr x)) = quiet d es _ h.2 c x

pub record IsFitting (d : ℕ) (f : Frame) : Type 0 where
  pub fits : IsFrame f
  pub flat : depth_beside f ≤ d
  pub clean : (at : ℕ) → Never (OfClosed plain at f)

module _ (d : ℕ) (w : Width) (left : ℕ) where
  fit_member : (done : Spellings) → HoldsOrIndefinite w (spellings_count done + suc left) → AreTaken d done → IsFitting d (frames.a_member w done (zeros left))
  fit_member done holds h = record {
    fits = (subst (λ (n : ℕ). HoldsOrIndefinite w (spellings_count done + suc n)) (sym (zeros_count left)) holds, spelled-all d done h, zeros_spelled left);
    flat = omega (arith, within-all d done h, zeros_flat left);
    clean = λ at c x. elim x [ inl y ↦ no-count at majors.Array w _ c y | inr y ↦ clean-all d done _ h c y ];
  }

  fit_key : (done : SpelledEntries) → HoldsOrIndefinite w (entries_count done + suc left) → ArePairsTaken d done → IsFitting d (frames.a_key w done zero_item (zero_pairs left))
  fit_key done holds h = record {
    fits = (subst (λ (n : ℕ). HoldsOrIndefinite w (entries_count done + suc n)) (sym (pairs_count left)) holds, pairs-spelled d done h, zero_spelled, pairs_spelled left);
    flat = omega (arith, pairs-within d done h, pairs_flat left);
    clean = λ at c x. elim x [ inl y ↦ no-count at majors.Map w _ c y | inr y ↦ quiet d done _ h c y ];
  }

  fit_value : (done : SpelledEntries) (k : Spelling) → HoldsOrIndefinite w (entries_count done + suc left) → ArePairsTaken d done → IsTaken d k → IsFitting d (frames.a_content w done k (zero_pairs left))
  fit_value done k holds h i = record {
    fits = (subst (λ (n : ℕ). HoldsOrIndefinite w (entries_count done + suc n)) (sym (pairs_count left)) holds, pairs-spelled d done h, i.spelled, pairs_spelled left);
    flat = omega (arith, pairs-within d done h, pairs_flat left, i.within);
    clean = λ at c x. elim x [ inl y ↦ no-count at majors.Map w _ c y | inr (inl y) ↦ quiet d done _ h c y | inr (inr y) ↦ i.clean _ c y ];
  }

pub fitting : (d : ℕ) (l : Level) → IsLevel d l → IsFitting d (frame_of l)
fitting d (a_member w left done) h = fit_member d w left done (open_or w _ h.0) h.1
fitting d (a_key w left done) h = fit_key d w left done (open_or w _ h.0) h.1
fitting d (a_value w left done k) h = fit_value d w left done k (open_or w _ h.0) h.1 h.2
fitting d (some_member done) h = fit_member d Indefinite 0 done tt h
fitting d (some_key done) h = fit_key d Indefinite 0 done tt h
fitting d (some_value done k) h = fit_value d Indefinite 0 done k tt h.0 h.1
fitting d (tagged w n) h = record { fits = h; flat = omega arith; clean = λ at c x. cc x.0 }

-- ---- all of them, the outermost first

unfoldable pub path : List Level → List Frame
path ls = all_frames (paths_of ls)

pub path_length : (ls : List Level) → length (path ls) ≡ length ls
unfolding path
path_length ls = frames_length (paths_of ls) ∙ paths_length ls

pub path_bytes : (ls : List Level) → before_all (path ls) ≡ bytes_before ls
unfolding path
path_bytes ls = frames_bytes (paths_of ls) ∙ paths_bytes ls

pub path_open : (d : ℕ) (ls : List Level) → AreLevels d ls → AreOpen plain d (path ls)
unfolding path all_frames
path_open d [] h = none_open plain d
path_open d (l ∷ ls) h =
    let i = fitting (d - suc (length ls)) l h.1 in
    one_opens plain d (path ls) (frame_of l) (d - suc (length ls)) (path_open d ls h.2) (omega (arith, h.0, path_length ls)) i.fits i.flat (i.clean _)

-- ---- the containers around the item that is expected, where it is known what is complete in them

same_expected : (ls : List Level) → walk.IsKeyExpectedIn (paths_of ls) ↔ IsKeyExpectedIn ls
same_expected [] = (λ h. h, λ h. h)
same_expected (tagged w n ∷ ls) = (λ h. h, λ h. h)
same_expected (_ ∷ ls) = (λ h. h, λ h. h)

expected_in : (ls : List Level) → IsKeyExpected (path ls) ↔ IsKeyExpectedIn ls
unfolding path
expected_in ls = let there = key_expected (paths_of ls) in let back = same_expected ls in (λ h. back.0 (there.0 h), λ h. there.1 (back.1 h))

pub around_levels : (d : ℕ) (ls : List Level) → AreLevels d ls → IsAround d (d - length ls) (path ls) (bytes_before ls) (IsKeyExpectedIn ls)
around_levels d ls levels =
    let are = path_open d ls levels in
    let left : are.left ≡ d - length ls = omega (arith, are.levels, path_length ls) in
    record { levels = omega (arith, are.levels, left); path = subst (λ (n : ℕ). ArePath n (path ls)) left are.path; before_is = path_bytes ls; expected = expected_in ls }

-- ---- the bytes so far are those of a beginning

pub begins_so_far : (d : ℕ) (ls : List Level) (s : Spelling) → AreLevels d ls → IsSpelled s → depth s ≤ d - length ls → IsBeginning d (bytes_before ls ++ spell s)
begins_so_far d ls s h i l =
    let around = around_levels d ls h in
    let r = spell_along (path ls) s in
    let whole = item_along (path ls) s (d - length ls) around.path i l in
    (plug_all (path ls) s, r.0, record { spelled = whole.0; within = omega (arith, whole.1, around.levels); bytes_are = r.1 ∙ ap (λ (x : List ℕ). x ++ (spell s ++ r.0)) around.before_is ∙ sym (append_assoc (bytes_before ls) (spell s) r.0) })

pub begins_before : (d : ℕ) (ls : List Level) → AreLevels d ls → IsBeginning d (bytes_before ls)
begins_before d ls h = shorter d (bytes_before ls) (spell zero_item) (begins_so_far d ls zero_item h (omega arith) (omega arith))
