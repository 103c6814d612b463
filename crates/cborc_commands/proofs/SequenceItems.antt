-- The items of a sequence, and one more.
use Rattle.std.proofs.Common.{ℕ, ◌+◌, ◌<◌, ◌≡◌, List, [], ◌∷◌, ◌++◌, length, flat_map, refl, ap, ◌∙◌, arith, append_assoc, length-append}
use Rattle.cbor_head.specs.Prelude.{Spelling, spell}
use Rattle.cbor_reader.specs.Sequence.{sequence_bytes}
use Rattle.cborc_commands.{proofs.Lists.all_with, proofs.Lists.joined_with, specs.Sequences.texts_from, specs.Sequences.StartsWithEach}

-- for texts that do not depend on the offset
pub texts_anywhere : (text : Spelling → List ℕ) (start : ℕ) (items : List Spelling) → texts_from (λ start. text) start items ≡ flat_map text items
texts_anywhere text start [] = refl
texts_anywhere text start (s ∷ ss) = ap (λ (x : List ℕ). text s ++ x) (texts_anywhere text (start + length (spell s)) ss)

-- one more item
module _ (takes : Spelling → Type 0) (input : List ℕ) (items : List Spelling) (rest : List ℕ) (h : StartsWithEach takes input items rest) where
  pub one_more_starts : (item : Spelling) (following : List ℕ) → takes item → spell item ++ following ≡ rest
      → StartsWithEach takes input (items ++ item ∷ []) following × (0 < length (items ++ item ∷ []))
  one_more_starts item following t e = (
    record {
      each = all_with takes items item h.each t;
      bytes =
          ap (λ (x : List ℕ). x ++ following) (joined_with spell items item) ∙ append_assoc (sequence_bytes items) (spell item) following
          ∙ ap (λ (x : List ℕ). sequence_bytes items ++ x) e ∙ h.bytes;
    },
    omega (arith, length-append items (item ∷ [])),
  )
