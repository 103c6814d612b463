-- The item at the start of some bytes, for which something was written, or which is refused.
use Rattle.std.proofs.Common.{ℕ, ◌≡◌, ◌<◌, ◌≤◌, Option, List, ◌++◌, length, drop, refl, sym, ap, ◌∙◌, subst, append_assoc}
use Rattle.std.specs.Io.KnownBytes.{Appends}
use Rattle.cbor_head.specs.Prelude.{Rules, plain, Bounds, Spelling, spell, refusal}
use Rattle.cbor_head.specs.declared.reason.Reason.TheVariants as reasons
use Rattle.cbor_head.specs.declared.{order.KeyOrder.KeyOrder, reason.Refusal.Refusal}
use Rattle.theory_verdicts.specs.Readers.{IsRead}
use Rattle.cbor_reader.{specs.BuiltPrefix.IsBuiltPrefix, specs.Sequence.IsAccepted, proofs.Sequences.is_accepted, proofs.Sequences.splits}
use Rattle.cborc_words.specs.declared.request.{Form.Form, TextStyle.TextStyle}
use Rattle.cborc_commands.specs.declared.fault.Fault.TheVariants as faults
use Rattle.cborc_commands.specs.CanonSequence.{HasCanonicalBytes, canonical_text, too_long}
use Rattle.cborc_commands.specs.inner.SequenceItems.{IsCutText, IsUnwritten, IsItemNotShown}
use Rattle.cborc_commands.specs.{Texts.GoesInPart, Texts.in_form, inner.NotWritten.IsNotTaken, declared.fault.Fault.Fault, inner.Items.IsWritten}
use Rattle.cborc_commands.specs.ShowSequence.{item_text}

-- the item that is read at the start
module _ (limits : Bounds) (rules : Rules) (bytes : List ℕ) (size : ℕ) (h : IsRead limits rules bytes size) where
  pub item_accepted : IsAccepted limits rules h.item
  item_accepted = is_accepted limits rules bytes h.item h.verdict

  pub written_of : (takes : Spelling → Type 0) (text : Spelling → List ℕ) (before after : Option (List ℕ)) → takes h.item → Appends before after (text h.item)
      → IsWritten takes text bytes size before after
  written_of takes text before after t w = record {
    item = h.item;
    rest = drop (length (spell h.item)) bytes;
    taken = t;
    bytes_are = splits limits rules bytes h.item h.verdict;
    size_is = h.size;
    written = w;
  }

  -- and more follows
  before_following : (following : List ℕ) → spell h.item ++ (drop (length (spell h.item)) bytes ++ following) ≡ bytes ++ following
  before_following following =
      sym (append_assoc (spell h.item) (drop (length (spell h.item)) bytes) following)
      ∙ ap (λ (x : List ℕ). x ++ following) (splits limits rules bytes h.item h.verdict)

  -- only a part of its text was accepted
  cut_of : (takes : Spelling → Type 0) (text : Spelling → List ℕ) (before after : Option (List ℕ)) (following : List ℕ) → takes h.item
      → GoesInPart before after (text h.item) → IsCutText takes text (bytes ++ following) before after
  cut_of takes text before after following t w = record {
    item = h.item;
    rest = drop (length (spell h.item)) bytes ++ following;
    has = t;
    bytes_are = before_following following;
    taken = w;
  }

-- only a part of its diagnostic text was accepted
pub text_not_taken : (limits : Bounds) (bytes : List ℕ) (size : ℕ) (h : IsRead limits plain bytes size) (text_style : TextStyle) (before after : Option (List ℕ)) (following : List ℕ) (fault : Fault)
    → IsNotTaken (item_text text_style h.item) before after fault → IsItemNotShown limits text_style (bytes ++ following) fault before after
text_not_taken limits bytes size h text_style before after following faults.CannotPrint cut =
    cut_of limits plain bytes size h (IsAccepted limits plain) (item_text text_style) before after following (item_accepted limits plain bytes size h) cut
text_not_taken limits bytes size h text_style before after following faults.Memory same = same
text_not_taken limits bytes size h text_style before after following _ none = absurd none

-- ---- its canonical bytes

module _ (b : Bounds) (o : KeyOrder) (bytes canonical : List ℕ) (size : ℕ) (h : IsBuiltPrefix b o bytes canonical size) where
  module _ (fits : length canonical ≤ b.bytes) (form : Form) (text : List ℕ) (formed : text ≡ in_form form canonical) where
    has_bytes : HasCanonicalBytes b o h.read.item
    has_bytes = record { accepted = item_accepted b plain bytes size h.read; fits = rw (← h.canonical_is) fits }

    text_is : text ≡ canonical_text o form h.read.item
    text_is = formed ∙ ap (in_form form) h.canonical_is

    pub canonical_of : (before after : Option (List ℕ)) → Appends before after text → IsWritten (HasCanonicalBytes b o) (canonical_text o form) bytes size before after
    canonical_of before after w = written_of b plain bytes size h.read (HasCanonicalBytes b o) (canonical_text o form) before after has_bytes (subst (Appends before after) text_is w)

    -- a part of its text was accepted
    pub cut_text : (before after : Option (List ℕ)) (following : List ℕ) → GoesInPart before after text
        → IsCutText (HasCanonicalBytes b o) (canonical_text o form) (bytes ++ following) before after
    cut_text before after following w =
        cut_of b plain bytes size h.read (HasCanonicalBytes b o) (canonical_text o form) before after following has_bytes (subst (GoesInPart before after) text_is w)

  pub grown_too_long : b.bytes < length canonical → (form : Form) (out : Option (List ℕ)) (following : List ℕ) (f : Refusal) → f ≡ refusal reasons.CanonicalTooLong size size
      → IsUnwritten b o form (bytes ++ following) (faults.Refused f) out out
  grown_too_long l form out following f is = (
    too_long h.read.item (drop (length (spell h.read.item)) bytes ++ following) (item_accepted b plain bytes size h.read) (before_following b plain bytes size h.read following) (rw (← h.canonical_is) l)
        (is ∙ ap (λ (k : ℕ). refusal reasons.CanonicalTooLong k k) h.read.size),
    refl,
  )
