-- The lines of an item's events, in each style of `events`.
use Rattle.std.specs.Prelude.{◌≡◌, ℕ, List, length, take, Option}
use Rattle.std.specs.Io.KnownBytes.{Appends}
use Rattle.cbor_head.specs.Prelude.{Bounds, Spelling, spell, form, refusal, accepted, refused, IsVerdict}
use Rattle.cbor_head.specs.declared.reason.Reason.TheVariants.{Read, Write, Truncated}
use Rattle.cbor_head.specs.declared.reason.Refusal.{Refusal}
use Rattle.theory_automaton.specs.Event.{events}
use Rattle.cbor_listing.specs.{Annotated.annotated, Annotated.IsAnnotation, Annotated.IsAnnotationCut, Listing.lines, Listing.IsListing, Listing.IsStopped}
use Rattle.cbor_listing.specs.Written.{capped}
use Rattle.cborc_words.specs.declared.request.EventStyle.{EventStyle, TheVariants.Listed, TheVariants.Annotated}

-- all lines of an item, which starts at this offset
abbrev pub event_lines : EventStyle → ℕ → Spelling → List ℕ
event_lines Listed start item = lines start (events 0 item)
event_lines Annotated start item = annotated start item (events 0 item)

-- the lines of the bytes t, at offset start: of each item that starts with them, those of the events that end within them
abbrev pub AreLines : EventStyle → ℕ → ℕ → List ℕ → List ℕ → Type 0
AreLines Listed start d t out = IsListing start d t out
AreLines Annotated start d t out = IsAnnotation start d t out

-- the same, but cut off within the lines of the last event, which ends where t ends
abbrev pub AreLinesCut : EventStyle → ℕ → ℕ → List ℕ → List ℕ → Type 0
AreLinesCut Listed start d t out = IsStopped start d t out
AreLinesCut Annotated start d t out = IsAnnotationCut start d t out

-- the item at the start of the bytes b, at offset start, is accepted, and all its lines were written
pub record AreListed (style : EventStyle) (start : ℕ) (limits : Bounds) (b : List ℕ) (count : ℕ) (old new : Option (List ℕ)) : Type 0 where
  pub item : Spelling
  pub verdict : IsVerdict limits form b (accepted item)
  pub size : count ≡ length (spell item)
  pub written : Appends old new (event_lines style start item)

-- the bytes b are refused, and something was written
pub data AreUnlisted (style : EventStyle) (start : ℕ) (limits : Bounds) (b : List ℕ) (f : Refusal) (old new : Option (List ℕ)) : Type 0 where
  -- the verdict of form: the lines of the bytes before its offset
  of_verdict : (out : List ℕ) → IsVerdict limits form b (refused f)
      → AreLines style start limits.depth (take f.place b) out → Appends old new out → AreUnlisted style start limits b f old new
  -- the reader failed: the lines of the bytes that were read; as a whole input, these are Truncated
  of_reader : (out : List ℕ) → f ≡ refusal Read f.read f.read
      → IsVerdict limits form (take f.read b) (refused (refusal Truncated f.read f.read))
      → AreLines style start limits.depth (take f.read b) out → Appends old new out → AreUnlisted style start limits b f old new
  -- the writer failed or accepted no bytes: the lines of the bytes that were read, up to the offset
  of_writer : (out : List ℕ) → f ≡ refusal Write (capped (length out)) f.read
      → AreLinesCut style start limits.depth (take f.read b) out → Appends old new out → AreUnlisted style start limits b f old new
