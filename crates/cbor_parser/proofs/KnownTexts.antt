-- The texts of an item that is known to be valid are UTF-8, at the walk's position in it.
use Rattle.std.proofs.Common.{◌≡◌, ℕ, ◌+◌, ◌-◌, ◌≤◌, Bool, true, false, true≢false, Some, List, ◌∷◌, ◌++◌, length, take, drop, refl, sym, ap, ◌∙◌, subst, append_assoc, IsUtf8, length-take-le, take-append-drop}
use Rattle.std.{specs.Str.is_utf8, specs.Str.Lossy.utf8_valid_len, proofs.lemmas.Str.IsUtf8-from_is_utf8, proofs.lemmas.Str.is_utf8-from_IsUtf8}
use Rattle.cbor_head.specs.Prelude.{Complaint, plain, complaint, Holds, head, AreBytes}
use Rattle.cbor_head.specs.declared.{major.Major.TheVariants.Text, reason.Reason.TheVariants.InvalidText}
use Rattle.theory_values.proofs.ByteLists.{bytes_prefix}
use Rattle.theory_verdicts.specs.Levels.{Level, ParseState, bytes_before}
use Rattle.theory_verdicts.proofs.{CleanParts.clean-prefix, HeadComplaints.heads_free, Leaves.text_complains}
use Rattle.theory_verdicts.{proofs.RefusedChunks.AreChunksRead, proofs.RefusedChunks.no_text, specs.Judged.IsJudged, specs.Reading.string_major}
use Rattle.cbor_parser.specs.inner.{Parser.AgreesBefore, Parser.IsExpectedFor, Parts.IsHead, Parts.IsPayload}
use Rattle.cbor_parser.{proofs.GivenItems.string-bytes, specs.inner.OpenContainer.Cell}

decided : (q : List ℕ) → ((IsUtf8 q → ⊥) → ⊥) → IsUtf8 q
decided q h = go (is_utf8 q) refl
  where
    go : (b : Bool) → is_utf8 q ≡ b → IsUtf8 q
    go true e = IsUtf8-from_is_utf8 q e
    go false e = absurd (h (λ u. true≢false (sym (is_utf8-from_IsUtf8 q u) ∙ e)))

-- a text that is not checked is known to be UTF-8
looked-through : (trusts t : Bool) (n size : ℕ) (bytes : List ℕ) → IsPayload trusts t n size bytes → (trusts ≡ true → t ≡ true → (IsUtf8 (take n bytes) → ⊥) → ⊥) → IsPayload false t n size bytes
looked-through false t n size bytes p known = p
looked-through true t n size bytes p known = record { all = p.all; inside = p.inside; utf8 = λ _ e. decided (take n bytes) (known refl e) }

-- by its size
pub sized : (t : Bool) (n size : ℕ) (bytes : List ℕ) → IsPayload false t n size bytes → (size ≤ length bytes) × (t ≡ true → IsUtf8 (take size bytes))
sized t n size bytes p = subst (λ (k : ℕ). (k ≤ length bytes) × (t ≡ true → IsUtf8 (take k bytes))) (sym p.all) (p.inside, p.utf8 refl)

module _ (S : Type 0) (agrees : S → S → ParseState → Type 0) (trusts : Bool) (P : List Level → Type 0) (d : ℕ) (input : List ℕ) (cs : List Cell) where
  -- nothing at the start has a complaint
  never-refused : (rest : List ℕ) (s : AgreesBefore S agrees trusts P d input cs rest) → trusts ≡ true → (p after : List ℕ) → rest ≡ p ++ after → (c : Complaint) → IsJudged plain (length (bytes_before s.ls)) (d - length s.ls) p (Some c) → ⊥
  never-refused rest s e p after is c j =
      let (item, more, taken, prefix) = s.known e in
      clean-prefix d s.ls j.item item p j.rest after more s.levels j.is taken (append_assoc (bytes_before s.ls) p after ∙ ap (λ (x : List ℕ). bytes_before s.ls ++ x) (sym is) ∙ sym s.bytes ∙ prefix)
      c j.finding.holds j.finding.ends

  no-other-text : (rest : List ℕ) → AgreesBefore S agrees trusts P d input cs rest → trusts ≡ true → (n : ℕ) (following : List ℕ) → IsHead Text n rest following → n ≤ length following → AreBytes following → (IsUtf8 (take n following) → ⊥) → ⊥
  no-other-text rest s e n following h inside are none =
      let q = take n following in
      let small : AreBytes q = bytes_prefix q (drop n following) (subst AreBytes (sym (take-append-drop n following)) are) in
      let hd = head Text h.width (length q) in
      let at = length (bytes_before s.ls) in
      let c = complaint (at + length hd + length q) (at + length hd + utf8_valid_len q) InvalidText in
      never-refused rest s e (hd ++ q) (drop n following) (string-bytes Text n rest following h inside) c
      (text_complains h.width q plain at (d - length s.ls) c (subst (Holds h.width) (sym (length-take-le n following inside)) h.holds, small) (heads_free at Text h.width (length q)) (refl, none, refl))

module _ (S : Type 0) (agrees : S → S → ParseState → Type 0) (trusts t : Bool) (top : Cell) (g : S) (n size : ℕ) where
  pub known-string : (rest following : List ℕ) → IsHead (string_major t) n rest following → IsExpectedFor S agrees trusts top g rest → AreBytes following → IsPayload trusts t n size following → IsPayload false t n size following
  known-string rest following h (d, outer, (start, input, expected)) are p =
      looked-through trusts t n size following p (λ e text. no-other-text S agrees trusts _ d input (top ∷ outer) rest expected e n following (subst (λ (u : Bool). IsHead (string_major u) n rest following) text h) p.inside are)

  pub known-chunk : (begin rest : List ℕ) → IsExpectedFor S agrees trusts top g begin → AreChunksRead t begin rest → (from : List ℕ) → IsHead (string_major t) n rest from → IsPayload trusts t n size from → IsPayload false t n size from
  known-chunk begin rest (d, outer, (start, input, expected)) r from h p = looked-through trusts t n size from p (λ e text none.
      let x = no_text t begin rest r h.width n from h.is h.holds text p.inside none in
      never-refused S agrees trusts _ d input (top ∷ outer) begin expected e x.prefix (drop n from) x.splits _ (x.judged (length (bytes_before expected.ls)) (d - length expected.ls)))
