-- What `canon --seq` writes, why it does not write all, and what is written then (RFC 8742).
use Rattle.std.specs.Prelude.{ℕ, ◌≡◌, ◌<◌, ◌≤◌, ◌⊎◌, ◌++◌, true, false, List, length, flat_map, Option}
use Rattle.std.specs.Io.KnownBytes.{Appends}
use Rattle.cbor_head.specs.Prelude.{canonical, plain, Bounds, Spelling, spell, value_of, refusal, refused, IsVerdict}
use Rattle.cbor_head.specs.declared.{order.KeyOrder.KeyOrder, reason.Reason.TheVariants.CanonicalTooLong, reason.Refusal.Refusal}
use Rattle.cbor_reader.specs.Sequence.{IsAccepted}
use Rattle.cborc_files.specs.Folder.{Files, is_stream}
use Rattle.cborc_words.specs.declared.request.{Form.Form, Options.Options, Output.Output}
use Rattle.cborc_commands.specs.Sequences.{StartsWithEach, AreAll, GoesOn, IsCutShort, IsTakenSoFar}
use Rattle.cborc_commands.specs.declared.fault.Fault.TheVariants as faults
use Rattle.cborc_commands.specs.{Input.IsInput, Texts.in_form, Put.IsPut, Put.IsNotPut, NoInput.IsNoInput, declared.fault.Fault.Fault}

-- the plain rules accept the item within the limits, and its canonical bytes too
pub record HasCanonicalBytes (limits : Bounds) (o : KeyOrder) (item : Spelling) : Type 0 where
  pub accepted : IsAccepted limits plain item
  pub fits : length (canonical o (value_of item)) ≤ limits.bytes

-- its canonical bytes, in a form
abbrev pub canonical_text : KeyOrder → Form → Spelling → List ℕ
canonical_text o form item = in_form form (canonical o (value_of item))

-- those of each item, one after another
abbrev pub canonical_texts : KeyOrder → Form → List Spelling → List ℕ
canonical_texts o form items = flat_map (canonical_text o form) items

-- why the item at the start of an input is refused
pub data IsUncanonical (limits : Bounds) (o : KeyOrder) (input : List ℕ) (f : Refusal) : Type 0 where
  -- no item is accepted
  of_verdict : IsVerdict limits plain input (refused f) → IsUncanonical limits o input f
  -- its canonical bytes are longer than the limit
  too_long : (item : Spelling) (rest : List ℕ) → IsAccepted limits plain item → spell item ++ rest ≡ input → limits.bytes < length (canonical o (value_of item))
      → f ≡ refusal CanonicalTooLong (length (spell item)) (length (spell item)) → IsUncanonical limits o input f

-- the input at a path is a sequence of items with canonical bytes, and their texts were written to the output
pub record IsSequenceCanonised (o : KeyOrder) (options : Options) (source : List ℕ) (output : Output) (old new : Option Files) (before after : Option (List ℕ)) : Type 0 where
  pub input : List ℕ
  pub is : IsInput old source options.hex input
  pub items : List Spelling
  pub all : AreAll (HasCanonicalBytes options.limits o) options.limits.bytes input items
  pub put : IsPut output.path.now old new before after (canonical_texts o output.form items)

-- this holds of standard output, if the texts go there
abbrev pub IsSent : List ℕ → Type 0 → Type 0
IsSent path taken = is_stream path ≡ true → taken

-- It is not: after items with canonical bytes, whose texts were written, comes a refused one, with this index and this
-- offset.
pub record HasUncanonicalItem (o : KeyOrder) (options : Options) (source : List ℕ) (output : Output) (held : Option Files) (before after : Option (List ℕ))
    (index start : ℕ) (f : Refusal) : Type 0 where
  pub input : List ℕ
  pub is : IsInput held source options.hex input
  pub items : List Spelling
  pub rest : List ℕ
  pub goes_on : GoesOn (HasCanonicalBytes options.limits o) options.limits.bytes input items rest index start
  pub refused : IsUncanonical options.limits o rest f
  pub sent : IsSent output.path.now (Appends before after (canonical_texts o output.form items))

-- the input at a path starts with such items: at least one, or these are all its items
pub record HasFirstTexts (o : KeyOrder) (options : Options) (source : List ℕ) (held : Option Files) : Type 0 where
  pub input : List ℕ
  pub is : IsInput held source options.hex input
  pub items : List Spelling
  pub rest : List ℕ
  pub starts : StartsWithEach (HasCanonicalBytes options.limits o) input items rest
  pub some : (0 < length items) ⊎ AreAll (HasCanonicalBytes options.limits o) options.limits.bytes input items

-- why not all is written, and what standard output accepted: an item is refused; standard output or the file failed; there is
-- no input, or memory was refused, which for a file can happen before anything is read
abbrev pub IsSequenceNotCanonised : KeyOrder → Options → List ℕ → Output → Option Files → Option (List ℕ) → Option (List ℕ) → Fault → Type 0
IsSequenceNotCanonised o options source output held before after (faults.RefusedItem index start f) =
    HasUncanonicalItem o options source output held before after index start f
IsSequenceNotCanonised o options source output held before after faults.CannotPrint =
    IsNotPut output.path.now faults.CannotPrint
    × IsCutShort (HasCanonicalBytes options.limits o) (canonical_text o output.form) options source held before after
IsSequenceNotCanonised o options source output held before after (faults.CannotWrite named) =
    IsNotPut output.path.now (faults.CannotWrite named) × HasFirstTexts o options source held
IsSequenceNotCanonised o options source output held before after faults.Memory =
    (is_stream output.path.now ≡ false ⊎ IsNoInput held source options.hex faults.Memory)
    × IsSent output.path.now (IsTakenSoFar (HasCanonicalBytes options.limits o) (canonical_text o output.form) options source held before after)
IsSequenceNotCanonised o options source output held before after fault =
    IsNoInput held source options.hex fault
    × IsSent output.path.now (IsTakenSoFar (HasCanonicalBytes options.limits o) (canonical_text o output.form) options source held before after)
