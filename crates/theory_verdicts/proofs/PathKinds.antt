-- That no key of another kind begins in the bytes so far, over the containers that are open around the item that is expected.
use Rattle.std.proofs.Common.{◌≡◌, ℕ, suc, ◌-◌, ◌<◌, ◌≤◌, ◌↔◌, List, [], ◌∷◌, ◌++◌, length, refl, sym, ap, ◌∙◌, subst, inl, inr, arith, length-append, append-nil}
use Rattle.cbor_head.specs.Prelude.{IsHead, head, Bounds, IsIntegerOrText, Rules, Complaint, OfKinds, Spelling, simple, spell, IsSpelled, depth, value_of}
use Rattle.cbor_head.specs.declared.{major.Major.Major, major.Major.TheVariants.Simple, width.Width.Width}
use Rattle.theory_values.proofs.{Alike.not_break, KeyKinds.byte_basic}
use Rattle.theory_verdicts.specs.Kinds.{KeepsToKinds, IsKeyFrame, IsKeyExpected, IsOfOneHead}
use Rattle.theory_verdicts.proofs.KindBytes.{Begins, begins_by, kinds_after, of_headed}
use Rattle.theory_verdicts.proofs.KindFrames.{expected_last, IsAround, keeps_on}
use Rattle.theory_verdicts.specs.Path.{Level, tagged, bytes_before, AreClean, IsKeyExpectedIn}
use Rattle.theory_verdicts.proofs.PathLevels.{frame_of, before_frame, frame_fits, frame_flat}
use Rattle.theory_verdicts.{specs.Frame.Frame, specs.Frame.before, specs.OpenMaps.before_all, specs.OpenMaps.ArePath, proofs.Heads.takes, proofs.Heads.headed}
use Rattle.theory_verdicts.{proofs.OpenSteps.before_snoc, proofs.OpenSteps.path_snoc, specs.PathKinds.IsFitPrefix, specs.PathKinds.KeepsHere}

-- ---- the levels as frames, the outermost first

unfoldable pub frames : List Level → List Frame
frames [] = []
frames (l ∷ ls) = frames ls ++ frame_of l ∷ []

pub frames_length : (ls : List Level) → length (frames ls) ≡ length ls
unfolding frames
frames_length [] = refl
frames_length (l ∷ ls) = omega (arith, frames_length ls, length-append (frames ls) (frame_of l ∷ []))

pub frames_bytes : (ls : List Level) → before_all (frames ls) ≡ bytes_before ls
unfolding frames
frames_bytes [] = refl
frames_bytes (l ∷ ls) = before_snoc (frames ls) (frame_of l) ∙ ap (λ (x : List ℕ). x ++ before (frame_of l)) (frames_bytes ls) ∙ ap (λ (x : List ℕ). bytes_before ls ++ x) (before_frame l)

pub frames_path : (r : Rules) (d : ℕ) (ls : List Level) → AreClean r d ls → ArePath (d - length ls) (frames ls)
unfolding frames
frames_path r d [] h = tt
frames_path r d (l ∷ ls) h =
    let at = length (bytes_before ls) in
    let left = d - suc (length ls) in
    let one : d - length ls ≡ suc left = omega (arith, h.0) in
    path_snoc (frames ls) (frame_of l) left (subst (λ (n : ℕ). ArePath n (frames ls)) one (frames_path r d ls h.2)) (frame_fits r at left l h.1) (frame_flat r at left l h.1)

-- ---- a key is expected

key_level : (l : Level) (ls : List Level) → IsKeyFrame (frame_of l) ↔ IsKeyExpectedIn (l ∷ ls)
key_level (tagged w n) ls = (λ h. h, λ h. h)
key_level _ ls = (λ h. h, λ h. h)

pub expected_in : (ls : List Level) → IsKeyExpected (frames ls) ↔ IsKeyExpectedIn ls
unfolding frames
expected_in [] = (λ h. h, λ h. h)
expected_in (l ∷ ls) =
    let last = expected_last (frames ls) (frame_of l) in
    (λ h. (key_level l ls).0 (last.0 h), λ h. last.1 ((key_level l ls).1 h))

-- ---- a prefix of an item

-- no item begins as a break does
pub no_break : (s : Spelling) → IsSpelled s → (z : List ℕ) → spell s ≡ 0xff ∷ z → ⊥
no_break s h z e =
    not_break s h [] [] (0xff ∷ []) (record { x = []; y = []; u = z; v = []; left = append-nil (spell s ++ []) ∙ append-nil (spell s) ∙ e; right = refl }) (omega arith)

-- by its first byte, if that is of the kinds that are allowed, so is the item
kind_of_prefix : (s : Spelling) (x z : List ℕ) → IsSpelled s → spell s ≡ x ++ z → IsFitPrefix x → 0 < length x → IsIntegerOrText (value_of s)
kind_of_prefix s [] z h e fit some = absurd (omega (arith, some))
kind_of_prefix s (b ∷ bs) z h e (inl basic) some = byte_basic s h b [] (bs ++ z) (append-nil (spell s) ∙ e) basic
kind_of_prefix s (b ∷ bs) z h e (inr broken) some = absurd (no_break s h (bs ++ z) (e ∙ ap (λ (c : ℕ). c ∷ (bs ++ z)) broken))

pub kept_prefix : (limits : Bounds) (r : Rules) (ls : List Level) (x y : List ℕ) → KeepsHere limits r ls (x ++ y) → KeepsHere limits r ls x
kept_prefix limits r ls [] y k = record { before = k.before; here = λ asked expected. tt }
kept_prefix limits r ls (b ∷ x) y k = record { before = k.before; here = k.here }

-- before its first byte
pub kept_before : (limits : Bounds) (r : Rules) (ls : List Level) → KeepsToKinds limits r (bytes_before ls) → KeepsHere limits r ls []
kept_before limits r ls keeps = record { before = keeps; here = λ asked expected. tt }

-- a definite head
pub head_begun : (d : ℕ) (m : Major) (w : Width) (n : ℕ) → IsHead m w n → takes m ≤ d → Begins d (head m w n)
head_begun d Simple w n h l = begins_by d _ (simple n) h.0 (omega arith) (ap (λ (v : Width). head Simple v n) (sym h.1))
head_begun d m w n h l = of_headed (headed d m w n tt h l)

-- ---- the bytes so far

pub clean_space : (r : Rules) (d : ℕ) (ls : List Level) → AreClean r d ls → length ls ≤ d
clean_space r d [] h = omega arith
clean_space r d (l ∷ ls) h = let below : length ls < d = h.0 in omega (arith, below)

pub around_clean : (r : Rules) (d : ℕ) (ls : List Level) → AreClean r d ls → IsAround d (d - length ls) (frames ls) (bytes_before ls) (IsKeyExpectedIn ls)
around_clean r d ls clean = record { levels = omega (arith, clean_space r d ls clean, frames_length ls); path = frames_path r d ls clean; before_is = frames_bytes ls; expected = expected_in ls }

module _ (limits : Bounds) (r : Rules) (ls : List Level) (clean : AreClean r limits.depth ls) where
  -- after bytes of one head
  pub keeps_begun : (x : List ℕ) → Begins (limits.depth - length ls) x → IsOfOneHead x → KeepsHere limits r ls x → KeepsToKinds limits r (bytes_before ls ++ x)
  keeps_begun x g one kept =
      keeps_on limits r (around_clean r limits.depth ls clean) g.item x g.rest g.spelled g.within g.bytes (λ asked expected some. kind_of_prefix g.item x g.rest g.spelled g.bytes (kept.here asked expected) some) (kinds_after g.item g.spelled x g.rest g.bytes one (length (bytes_before ls))) kept.before

  -- after an item without keys
  pub keeps_item : (s : Spelling) → IsSpelled s → depth s ≤ limits.depth - length ls → ((at : ℕ) (c : Complaint) → OfKinds at s c → ⊥) → KeepsHere limits r ls (spell s) → KeepsToKinds limits r (bytes_before ls ++ spell s)
  keeps_item s h l none kept =
      let e = sym (append-nil (spell s)) in
      keeps_on limits r (around_clean r limits.depth ls clean) s (spell s) [] h l e (λ asked expected some. kind_of_prefix s (spell s) [] h e (kept.here asked expected) some) (λ c o. absurd (none (length (bytes_before ls)) c o)) kept.before
