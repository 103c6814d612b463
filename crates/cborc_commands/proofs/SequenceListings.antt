-- Which lines of an item of a sequence were written, and why not all.
use Rattle.std.proofs.Common.{ℕ, ◌≡◌, ◌∙◌, ◌<◌, ◌≤◌, List, [], ◌++◌, length, Option, refl, sym, ap, subst}
use Rattle.std.{specs.Io.KnownBytes.Appends, proofs.lemmas.List.take-append-le}
use Rattle.cbor_head.specs.Prelude.{form, Bounds, refused, IsVerdict}
use Rattle.cbor_head.specs.declared.reason.Reason.TheVariants as reasons
use Rattle.cbor_head.specs.declared.reason.Refusal.{Refusal}
use Rattle.theory_verdicts.{specs.Readers.IsRead, specs.Refusals.IsFormReason, proofs.Reasons.form-reason}
use Rattle.cbor_reader.specs.Sequence.{IsAccepted}
use Rattle.cborc_words.specs.declared.request.EventStyle.{EventStyle}
use Rattle.cborc_commands.specs.EventStyles.{event_lines, AreLines, AreLinesCut, AreListed, AreUnlisted, of_verdict, of_reader, of_writer}
use Rattle.cborc_commands.specs.declared.fault.Fault.TheVariants as faults
use Rattle.cborc_commands.specs.EventsSequence.{gap, item_lines, before_all, within, listed_to, listed_short}
use Rattle.cborc_commands.{proofs.Outputs.appends_more, proofs.Places.place_within, specs.inner.Listed.IsPrefixNotListed, specs.Fault.IsOfInput}
use Rattle.cborc_commands.specs.{declared.fault.Fault.Fault, inner.Items.IsWritten, inner.SequenceItems.IsItemNotListed}
use Rattle.cborc_commands.proofs.{Further.IsSettled, Further.verdict_further, Taken.item_accepted, Taken.written_of}

-- ---- no verdict is that the writer failed

verdict_not : (limits : Bounds) (input : List ℕ) (f : Refusal) → IsVerdict limits form input (refused f) → f.reason ≡ reasons.Write → ⊥
verdict_not limits input f v e = subst IsFormReason e (form-reason limits input f v)

-- ---- one item at the start

module _ (style : EventStyle) (start : ℕ) (limits : Bounds) (bytes : List ℕ) (before middle after : Option (List ℕ)) (g : Appends before middle (gap start)) where
  pub item_listed : (size : ℕ) → AreListed style start limits bytes size middle after → IsWritten (IsAccepted limits form) (item_lines style start) bytes size before after
  item_listed size h =
      let read : IsRead limits form bytes size = record { item = h.item; verdict = h.verdict; size = h.size } in
      written_of limits form bytes size read (IsAccepted limits form) (item_lines style start) before after (item_accepted limits form bytes size read)
      (appends_more before middle after (gap start) (event_lines style start h.item) g h.written)

  module _ (following : List ℕ) where
    refused_so : (f : Refusal) → IsOfInput f.reason → (f.reason ≡ reasons.Write → ⊥) → (IsVerdict limits form bytes (refused f) → IsSettled following f) → AreUnlisted style start limits bytes f middle after
        → IsItemNotListed style limits start (bytes ++ following) (faults.Refused f) before after
    refused_so f own apart known (of_verdict out v l a) = (
      gap start ++ out,
      record {
        verdict = verdict_further limits form bytes following f (known v) v;
        so_far = out;
        lines = subst (λ (t : List ℕ). AreLines style start limits.depth t out) (sym (take-append-le f.place bytes following (place_within limits bytes f v))) l;
        is = refl;
      },
      appends_more before middle after (gap start) out g a,
    )
    refused_so f own apart known (of_reader out e v l a) = absurd (subst IsOfInput (ap (λ (x : Refusal). x.reason) e) own)
    refused_so f own apart known (of_writer out e s a) = absurd (apart (ap (λ (x : Refusal). x.reason) e))

    cut_off : (f : Refusal) → f.reason ≡ reasons.Write → f.read ≤ length bytes → AreUnlisted style start limits bytes f middle after → IsItemNotListed style limits start (bytes ++ following) faults.CannotPrint before after
    cut_off f is l (of_verdict out v t a) = absurd (verdict_not limits bytes f v is)
    cut_off f is l (of_reader out e v t a) = let t : reasons.Read ≡ reasons.Write = sym (ap (λ (x : Refusal). x.reason) e) ∙ is in absurd (cc t)
    cut_off f is l (of_writer out e s a) = (
      gap start ++ out,
      within f.read out (subst (λ (t : List ℕ). AreLinesCut style start limits.depth t out) (sym (take-append-le f.read bytes following l)) s) refl,
      appends_more before middle after (gap start) out g a,
    )

    listed_in_part : (f : Refusal) → f.read ≤ length bytes → AreUnlisted style start limits bytes f middle after → IsItemNotListed style limits start (bytes ++ following) faults.Memory before after
    listed_in_part f l (of_verdict out v t a) = (
      gap start ++ out,
      listed_to f.place out (subst (λ (x : List ℕ). AreLines style start limits.depth x out) (sym (take-append-le f.place bytes following (place_within limits bytes f v))) t) refl,
      appends_more before middle after (gap start) out g a,
    )
    listed_in_part f l (of_reader out e v t a) = (
      gap start ++ out,
      listed_to f.read out (subst (λ (x : List ℕ). AreLines style start limits.depth x out) (sym (take-append-le f.read bytes following l)) t) refl,
      appends_more before middle after (gap start) out g a,
    )
    listed_in_part f l (of_writer out e s a) = (
      gap start ++ out,
      listed_short (within f.read out (subst (λ (x : List ℕ). AreLinesCut style start limits.depth x out) (sym (take-append-le f.read bytes following l)) s) refl),
      appends_more before middle after (gap start) out g a,
    )

    pub item_not_listed : ((f : Refusal) → IsVerdict limits form bytes (refused f) → IsSettled following f) → (fault : Fault) → IsPrefixNotListed style start limits bytes middle after fault
        → IsItemNotListed style limits start (bytes ++ following) fault before after
    item_not_listed known (faults.Refused f) (own, apart, u, l) = refused_so f own apart (known f) u
    item_not_listed known faults.CannotPrint (f, u, l, e) = cut_off f e l u
    item_not_listed known faults.Memory (f, u, l, e) = listed_in_part f l u
    item_not_listed known _ h = absurd h

-- the output failed before the lines
pub gap_not_written : (style : EventStyle) (start : ℕ) (limits : Bounds) (bytes : List ℕ) (before after : Option (List ℕ)) (fault : Fault) → fault ≡ faults.CannotPrint → 0 < start → Appends before after []
    → IsItemNotListed style limits start bytes fault before after
gap_not_written style start limits bytes before after fault e some a =
    subst (λ (x : Fault). IsItemNotListed style limits start bytes x before after) (sym e) ([], before_all some refl, a)
