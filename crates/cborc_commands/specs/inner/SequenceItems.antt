-- Why the item at the start of some bytes is not accepted.
use Rattle.std.specs.Prelude.{ℕ, ◌≡◌, ◌++◌, List, Option}
use Rattle.std.specs.Io.KnownBytes.{Appends}
use Rattle.cbor_head.specs.Prelude.{Rules, plain, Bounds, Spelling, spell, refused, IsVerdict}
use Rattle.cbor_head.specs.declared.order.KeyOrder.{KeyOrder}
use Rattle.cbor_reader.specs.Sequence.{IsAccepted}
use Rattle.cborc_words.specs.declared.request.{Form.Form, EventStyle.EventStyle, TextStyle.TextStyle}
use Rattle.cborc_commands.specs.declared.fault.Fault.TheVariants as faults
use Rattle.cborc_commands.specs.CanonSequence.{HasCanonicalBytes, canonical_text, IsUncanonical}
use Rattle.cborc_commands.specs.EventsSequence.{IsFormRefused, IsCutOff, IsListedInPart}
use Rattle.cborc_commands.specs.{Texts.GoesInPart, declared.fault.Fault.Fault, ShowSequence.item_text}

-- for counting: it is refused, or memory was refused
abbrev pub IsUncounted : Bounds → Rules → List ℕ → Fault → Type 0
IsUncounted b rules bytes (faults.Refused f) = IsVerdict b rules bytes (refused f)
IsUncounted b rules bytes faults.Memory = Unit {0}
IsUncounted b rules bytes _ = ⊥

-- the item is accepted, and the output accepted only a part of its text
pub record IsCutText (takes : Spelling → Type 0) (text : Spelling → List ℕ) (bytes : List ℕ) (before after : Option (List ℕ)) : Type 0 where
  pub item : Spelling
  pub rest : List ℕ
  pub has : takes item
  pub bytes_are : spell item ++ rest ≡ bytes
  pub taken : GoesInPart before after (text item)

-- for canonical bytes: it is refused, or memory was refused, and nothing was written; or the output failed
abbrev pub IsUnwritten : Bounds → KeyOrder → Form → List ℕ → Fault → Option (List ℕ) → Option (List ℕ) → Type 0
IsUnwritten b o form bytes (faults.Refused f) before after = IsUncanonical b o bytes f × (after ≡ before)
IsUnwritten b o form bytes faults.CannotPrint before after = IsCutText (HasCanonicalBytes b o) (canonical_text o form) bytes before after
IsUnwritten b o form bytes faults.Memory before after = after ≡ before
IsUnwritten b o form bytes _ before after = ⊥

-- for diagnostic text: the same
abbrev pub IsItemNotShown : Bounds → TextStyle → List ℕ → Fault → Option (List ℕ) → Option (List ℕ) → Type 0
IsItemNotShown b text_style bytes (faults.Refused f) before after = IsVerdict b plain bytes (refused f) × (after ≡ before)
IsItemNotShown b text_style bytes faults.CannotPrint before after = IsCutText (IsAccepted b plain) (item_text text_style) bytes before after
IsItemNotShown b text_style bytes faults.Memory before after = after ≡ before
IsItemNotShown b text_style bytes _ before after = ⊥

-- for lines: its form is refused, or memory was refused, and the lines before that were written; or the output failed
abbrev pub IsItemNotListed : EventStyle → Bounds → ℕ → List ℕ → Fault → Option (List ℕ) → Option (List ℕ) → Type 0
IsItemNotListed style b start bytes (faults.Refused f) before after =
    (shown : List ℕ) × IsFormRefused style start b bytes f shown × Appends before after shown
IsItemNotListed style b start bytes faults.CannotPrint before after = (shown : List ℕ) × IsCutOff style start b bytes shown × Appends before after shown
IsItemNotListed style b start bytes faults.Memory before after = (shown : List ℕ) × IsListedInPart style start b bytes shown × Appends before after shown
IsItemNotListed style b start bytes _ before after = ⊥
