-- The position after some bytes of a text.
use Rattle.std.proofs.Common.{ℕ, ◌+◌, ◌<◌, ◌≡◌, ◌∙◌, List, [], ◌∷◌, ◌++◌, length, take, slice_index, fold, refl, sym, ap, subst, arith}
use Rattle.std.proofs.lemmas.List.{take_more, Sums.fold-append}
use Rattle.cborc_files.specs.declared.hex_text.DigitsFault.TheVariants as faults
use Rattle.cborc_files.specs.Place.{line_after, column_after, MovesOn, IsOfHexText, IsOtherAt, IsFirstOther}
use Rattle.cborc_files.specs.{declared.hex_text.DigitsFault.DigitsFault, declared.hex_text.HexError.HexError, Digits.DigitsView}

pub stays : (d : DigitsView) → MovesOn [] d d
stays d = record { line = refl; column = refl }

-- a byte after others
folds : (f : ℕ → ℕ → ℕ) (from middle to : ℕ) (text : List ℕ) (byte : ℕ) → middle ≡ fold f from text → to ≡ fold f middle (byte ∷ []) → to ≡ fold f from (text ++ byte ∷ [])
folds f from middle to text byte e last = last ∙ ap (λ (n : ℕ). fold f n (byte ∷ [])) e ∙ sym (fold-append f from text (byte ∷ []))

module _ (text : List ℕ) (i : ℕ) (within : i < length text) (old middle : DigitsView) where
  pub moves_more : (new : DigitsView) → MovesOn (take i text) old middle → MovesOn (slice_index text i ∷ []) middle new → MovesOn (take (i + 1) text) old new
  moves_more new h k = subst (λ (x : List ℕ). MovesOn x old new) (sym (take_more text i 0 within)) (record {
    line = folds line_after old.line middle.line new.line (take i text) (slice_index text i) h.line k.line;
    column = folds column_after old.column middle.column new.column (take i text) (slice_index text i) h.column k.column;
  })

  -- the first byte of a text of one
  first_place : (e : HexError) (at : ℕ) → IsOtherAt (slice_index text i ∷ []) middle e at → at ≡ 0
  first_place e at h = omega (arith, h.within)

  other_at : (e : HexError) → MovesOn (take i text) old middle → ((k : ℕ) → k < i → IsOfHexText (slice_index text k)) → IsOtherAt (slice_index text i ∷ []) middle e 0 → IsOtherAt text old e i
  other_at e h digits o = record {
    within = within;
    digits = digits;
    other = o.other;
    line = o.line ∙ h.line;
    column = o.column ∙ h.column;
    byte = o.byte;
  }

  pub other_after : (fault : DigitsFault) → MovesOn (take i text) old middle → ((k : ℕ) → k < i → IsOfHexText (slice_index text k)) → IsFirstOther (slice_index text i ∷ []) middle fault
      → IsFirstOther text old fault
  other_after (faults.NotHex e) h digits (at, o) = (i, other_at e h digits (subst (IsOtherAt (slice_index text i ∷ []) middle e) (first_place e at o) o))
  other_after _ h digits o = tt
