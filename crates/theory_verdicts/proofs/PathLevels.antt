-- What is found of an item is found of the open containers around it.
use Rattle.std.proofs.Common.{◌≡◌, ℕ, suc, ◌+◌, ◌-◌, ◌≤◌, Option, Some, List, [], ◌∷◌, ◌++◌, length, refl, sym, ap, subst, inl, inr, arith, append_assoc, length-append}
use Rattle.cbor_head.specs.Prelude.{Rules, Complaint, OfKey, Complains, Spelling, SpelledEntries, spell, IsSpelled, depth, spellings_count, entries_count, HoldsOrIndefinite}
use Rattle.cbor_head.specs.declared.width.Width.{Width}
use Rattle.theory_verdicts.specs.Frame as frames
use Rattle.theory_verdicts.specs.Frame.{Frame, before, keys_onto, IsFrame, depth_beside, OfPrefix}
use Rattle.theory_verdicts.proofs.Judged.{zero_item, zero_spelled, zeros, zeros_count, zeros_spelled, zeros_flat, zero_pairs, pairs_count, pairs_spelled, pairs_flat, judged_in, judged_key}
use Rattle.theory_verdicts.specs.Path.{Level, a_member, a_key, a_value, tagged, level_bytes, IsClean, bytes_before, AreClean, HasEnded}
use Rattle.theory_verdicts.specs.{Judged.IsJudged, Judged.Never, SoFar.array_bytes, SoFar.map_bytes}

-- ---- a level as a frame, in which zeros represent what is still to come

abbrev pub frame_of : Level → Frame
frame_of (a_member w left done) = frames.a_member w done (zeros left)
frame_of (a_key w left done) = frames.a_key w done zero_item (zero_pairs left)
frame_of (a_value w left done k) = frames.a_content w done k (zero_pairs left)
frame_of (tagged w n) = frames.tagged w n

pub before_frame : (l : Level) → before (frame_of l) ≡ level_bytes l
before_frame (a_member w left done) = ap (λ (n : ℕ). array_bytes w (spellings_count done + suc n) done) (zeros_count left)
before_frame (a_key w left done) = ap (λ (n : ℕ). map_bytes w (entries_count done + suc n) done) (pairs_count left)
before_frame (a_value w left done k) = ap (λ (n : ℕ). map_bytes w (entries_count done + suc n) done ++ spell k) (pairs_count left)
before_frame (tagged w n) = refl

module _ (r : Rules) (at d : ℕ) where
  pub frame_fits : (l : Level) → IsClean r at d l → IsFrame (frame_of l)
  frame_fits (a_member w left done) h = (subst (λ (n : ℕ). HoldsOrIndefinite w (spellings_count done + suc n)) (sym (zeros_count left)) h.holds, h.spelled, zeros_spelled left)
  frame_fits (a_key w left done) h = (subst (λ (n : ℕ). HoldsOrIndefinite w (entries_count done + suc n)) (sym (pairs_count left)) h.holds, h.spelled, zero_spelled, pairs_spelled left)
  frame_fits (a_value w left done k) h = (subst (λ (n : ℕ). HoldsOrIndefinite w (entries_count done + suc n)) (sym (pairs_count left)) h.so_far.holds, h.so_far.spelled, h.spelled, pairs_spelled left)
  frame_fits (tagged w n) h = h.0

  pub frame_flat : (l : Level) → IsClean r at d l → depth_beside (frame_of l) ≤ d
  frame_flat (a_member w left done) h = omega (arith, h.within, zeros_flat left)
  frame_flat (a_key w left done) h = omega (arith, h.within, pairs_flat left)
  frame_flat (a_value w left done k) h = omega (arith, h.so_far.within, h.within, pairs_flat left)
  frame_flat (tagged w n) h = omega arith

  prefix_clean : (l : Level) → IsClean r at d l → Never (OfPrefix r at (frame_of l))
  prefix_clean (a_member w left done) h c g = let f = rw (zeros_count left) at g in elim f [ inl x ↦ h.head_clean c x | inr x ↦ h.clean c x ]
  prefix_clean (a_key w left done) h c g = let f = rw (pairs_count left) at g in elim f [ inl x ↦ h.head_clean c x | inr x ↦ h.clean c x ]
  prefix_clean (a_value w left done k) h c g =
      let f = rw (pairs_count left) at g in
      elim f [ inl x ↦ h.so_far.head_clean c x | inr (inl x) ↦ h.so_far.clean c x | inr (inr (inl x)) ↦ h.clean c x | inr (inr (inr x)) ↦ h.fits c x ]
  prefix_clean (tagged w n) h c g = h.1 c g

  -- what is found of the item is found of the container
  pub judged_level : (l : Level) → IsClean r at d l → (p : List ℕ) (found : Option Complaint) → IsJudged r (at + length (level_bytes l)) d p found → IsJudged r at (suc d) (level_bytes l ++ p) found
  judged_level l h p found j =
      subst (λ (x : List ℕ). IsJudged r at (suc d) (x ++ p) found) (before_frame l)
      (judged_in (frame_of l) r at d (frame_fits l h) (frame_flat l h) (prefix_clean l h) p found (subst (λ (x : List ℕ). IsJudged r (at + length x) d p found) (sym (before_frame l)) j))

  -- a complaint on the key that was expected
  pub judged_key_level : (w : Width) (left : ℕ) (done : SpelledEntries) (k : Spelling) (c : Complaint) → IsClean r at d (a_key w left done) → IsSpelled k → depth k ≤ d
      → Never (Complains r (at + length (level_bytes (a_key w left done))) k) → OfKey r.keys (at + length (level_bytes (a_key w left done))) (keys_onto [] done) k c
      → IsJudged r at (suc d) (level_bytes (a_key w left done) ++ spell k) (Some c)
  judged_key_level w left done k c h i low none o =
      let l = a_key w left done in
      let e = sym (before_frame l) in
      subst (λ (x : List ℕ). IsJudged r at (suc d) (x ++ spell k) (Some c)) (before_frame l)
      (judged_key (frame_of l) r at d (frame_fits l h) (frame_flat l h) (prefix_clean l h) k c i low (subst (λ (x : List ℕ). Never (Complains r (at + length x) k)) e none)
      (subst (λ (x : List ℕ). OfKey r.keys (at + length x) (keys_onto [] done) k c) e o))

-- what is found of it is found of the whole
pub judged_path : (r : Rules) (d : ℕ) (ls : List Level) → AreClean r d ls → (p : List ℕ) (found : Option Complaint) → IsJudged r (length (bytes_before ls)) (d - length ls) p found → IsJudged r 0 d (bytes_before ls ++ p) found
judged_path r d [] h p found j = let e : d - 0 ≡ d = omega arith in subst (λ (n : ℕ). IsJudged r 0 n p found) e j
judged_path r d (l ∷ ls) h p found j =
    let at = length (bytes_before ls) in
    let inner = subst (λ (n : ℕ). IsJudged r n (d - suc (length ls)) p found) (length-append (bytes_before ls) (level_bytes l)) j in
    let one = judged_level r at (d - suc (length ls)) l h.1 p found inner in
    let e : suc (d - suc (length ls)) ≡ d - length ls = omega (arith, h.0) in
    subst (λ (x : List ℕ). IsJudged r 0 d x found) (sym (append_assoc (bytes_before ls) (level_bytes l) p))
    (judged_path r d ls h.2 (level_bytes l ++ p) found (subst (λ (n : ℕ). IsJudged r at n (level_bytes l ++ p) found) e one))

pub judged_key_path : (r : Rules) (d : ℕ) (w : Width) (left : ℕ) (done : SpelledEntries) (ls : List Level) (k : Spelling) (c : Complaint) → HasEnded r d (a_key w left done ∷ ls) k
    → OfKey r.keys (length (bytes_before (a_key w left done ∷ ls))) (keys_onto [] done) k c → IsJudged r 0 d (bytes_before (a_key w left done ∷ ls) ++ spell k) (Some c)
judged_key_path r d w left done ls k c h o =
    let l = a_key w left done in
    let at = length (bytes_before ls) in
    let size = length-append (bytes_before ls) (level_bytes l) in
    let one = judged_key_level r at (d - suc (length ls)) w left done k c h.around.1 h.spelled h.within (subst (λ (n : ℕ). Never (Complains r n k)) size h.clean) (subst (λ (n : ℕ). OfKey r.keys n (keys_onto [] done) k c) size o) in
    let e : suc (d - suc (length ls)) ≡ d - length ls = omega (arith, h.around.0) in
    subst (λ (x : List ℕ). IsJudged r 0 d x (Some c)) (sym (append_assoc (bytes_before ls) (level_bytes l) (spell k)))
    (judged_path r d ls h.around.2 (level_bytes l ++ spell k) (Some c) (subst (λ (n : ℕ). IsJudged r at n (level_bytes l ++ spell k) (Some c)) e one))
