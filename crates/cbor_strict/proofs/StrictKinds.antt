-- That no key of another kind begins in what was read, from one event to the next.
use Rattle.std.proofs.Common.{◌≡◌, ℕ, ◌+◌, ◌-◌, ◌<◌, ◌≤◌, ◌↔◌, Bool, true, false, List, [], ◌∷◌, ◌++◌, length, replicate, refl, sym, ap, ◌∙◌, subst, inr, arith, append_assoc, length-append}
use Rattle.cbor_head.specs.Prelude.{Holds, head, Bounds, AreBytes, HoldsOrIndefinite, Rules}
use Rattle.cbor_head.specs.declared.major.Major.TheVariants as majors
use Rattle.cbor_head.specs.declared.width.Width.{Width}
use Rattle.theory_values.proofs.{ReadLaws.length_head, ByteLists.bytes_join}
use Rattle.theory_verdicts.specs.Kinds.{KeepsToKinds, IsKeyExpected, IsKeyFrame, IsOfOneHead}
use Rattle.theory_verdicts.proofs.Heads.{open_or, zero_bytes, zero_length}
use Rattle.theory_verdicts.proofs.KindBytes.{kinds_after, Begins, string_is_one}
use Rattle.theory_verdicts.proofs.KindFrames.{expected_last, IsAround, around_frames, keeps_more}
use Rattle.theory_verdicts.proofs.WholeStrings.{made_of, made-spells, made-spelled, made-flat}
use Rattle.theory_verdicts.specs.{Frame.Frame, Frame.a_key, OpenMaps.before_all, OpenMaps.ArePath, Reading.string_major}
use Rattle.cbor_strict.specs.inner.LastKeys.{KeysView, IsKept, from_outside, expected_of}
use Rattle.cbor_strict.specs.declared.last_keys.Expected.{Expected, TheVariants.Member, TheVariants.Key}

-- ---- a key is expected in the innermost container

key_frame : (f : Frame) → (expected_of f ≡ Key) ↔ IsKeyFrame f
key_frame (a_key w a v b) = ((λ e. tt), (λ h. refl))
key_frame _ = ((λ e. absurd (cc e)), (λ h. absurd h))

pub key_top : (keys : KeysView) (expected : Expected) → ((f : Frame) (fs : List Frame) (p : List ℕ) → IsKept keys (f ∷ fs) p → expected ≡ expected_of f) → ((p : List ℕ) → IsKept keys [] p → expected ≡ Member) → (fs : List Frame) (p : List ℕ) → IsKept keys fs p
    → (expected ≡ Key) ↔ IsKeyExpected (from_outside fs)
key_top keys expected some none [] p k = ((λ e. let two : Key ≡ Member = sym e ∙ none p k in cc two), (λ h. absurd h))
key_top keys expected some none (f ∷ fs) p k =
    let d = expected_last (from_outside fs) f in
    let s = some f fs p k in
    ((λ e. d.1 ((key_frame f).0 (sym s ∙ e))), (λ h. s ∙ (key_frame f).1 (d.0 h)))

-- ---- the bytes so far

module _ (limits : Bounds) (r : Rules) (fs : List Frame) (left : ℕ) (levels : length fs + left ≡ limits.depth) (path : ArePath left fs) where
  around : IsAround limits.depth left fs (before_all fs) (IsKeyExpected fs)
  around = around_frames limits.depth left fs (before_all fs) levels path refl

  -- further bytes of an item without members
  keeps_further : (x y : List ℕ) → 0 < length x → Begins left (x ++ y) → IsOfOneHead (x ++ y) → KeepsToKinds limits r (before_all fs ++ x) → KeepsToKinds limits r (before_all fs ++ (x ++ y))
  keeps_further x y some g one keeps = keeps_more limits r around g.item x y g.rest g.spelled g.within g.bytes some (λ c o. inr (kinds_after g.item g.spelled (x ++ y) g.rest g.bytes one _ c o)) keeps

-- a string of which a part was read
string_one : (is_text : Bool) (w : Width) (n : ℕ) (q : List ℕ) → HoldsOrIndefinite w n → IsOfOneHead (head (string_major is_text) w n ++ q)
string_one true w n q h = string_is_one majors.Text w n q tt h
string_one false w n q h = string_is_one majors.Bytes w n q tt h

string_begins : (is_text : Bool) (w : Width) (n left : ℕ) (q : List ℕ) → Holds w n → AreBytes q → length q ≤ n → Begins left (head (string_major is_text) w n ++ q)
string_begins is_text w n left q holds are_bytes l =
    let more : List ℕ = replicate (n - length q) 0 in
    let size : length (q ++ more) ≡ n = omega (arith, length-append q more, zero_length (n - length q), l) in
    record {
      item = made_of is_text w (q ++ more);
      spelled = made-spelled is_text w (q ++ more) (subst (Holds w) (sym size) holds) (bytes_join q more are_bytes (zero_bytes (n - length q)));
      within = omega (arith, made-flat is_text w (q ++ more));
      rest = more;
      bytes = made-spells is_text w (q ++ more) ∙ ap (λ (k : ℕ). head (string_major is_text) w k ++ (q ++ more)) size ∙ sym (append_assoc (head (string_major is_text) w n) q more);
    }

-- and more of it is read
pub keeps_string : (limits : Bounds) (r : Rules) (fs : List Frame) (left : ℕ) → length fs + left ≡ limits.depth → ArePath left fs → (is_text : Bool) (w : Width) (n : ℕ) (q y : List ℕ) → Holds w n → AreBytes (q ++ y) → length (q ++ y) ≤ n
    → KeepsToKinds limits r (before_all fs ++ (head (string_major is_text) w n ++ q)) → KeepsToKinds limits r (before_all fs ++ (head (string_major is_text) w n ++ (q ++ y)))
keeps_string limits r fs left levels path is_text w n q y holds are_bytes l keeps =
    let hd = head (string_major is_text) w n in
    let same = append_assoc hd q y in
    subst (λ (x : List ℕ). KeepsToKinds limits r (before_all fs ++ x)) same
    (keeps_further limits r fs left levels path (hd ++ q) y (omega (arith, length_head (string_major is_text) w n, length-append hd q)) (subst (Begins left) (sym same) (string_begins is_text w n left (q ++ y) holds are_bytes l))
    (subst IsOfOneHead (sym same) (string_one is_text w n (q ++ y) (open_or w n holds))) keeps)
