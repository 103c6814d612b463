-- What `canon` writes, and why it writes nothing.
use Rattle.std.specs.Prelude.{ℕ, ◌≡◌, ◌≢◌, List, Option, None, Some}
use Rattle.cbor_head.specs.{Prelude.Bounds, declared.order.KeyOrder.KeyOrder}
use Rattle.cbor_reader.specs.Canonicalise.{IsCanonicalOf, IsRefusal}
use Rattle.cborc_files.specs.Folder.{Files}
use Rattle.cborc_words.specs.declared.request.{Form.Form, Options.Options, Output.Output}
use Rattle.cborc_commands.specs.declared.fault.Fault.TheVariants as faults
use Rattle.cborc_commands.specs.{Input.IsInput, Fault.IsOfInput, NoInput.IsNoInput, declared.fault.Fault.Fault, Texts.GoesInPart, Texts.IsCanonicalText}
use Rattle.cborc_commands.specs.Put.{IsNotPut}

-- the input at a path has canonical bytes, and this holds for their text
pub record HasText (o : KeyOrder) (options : Options) (source : List ℕ) (form : Form) (held : Option Files) (Reported : List ℕ → Type 0) : Type 0 where
  pub input : List ℕ
  pub is : IsInput held source options.hex input
  pub text : List ℕ
  pub canonical : IsCanonicalText options.limits o form input text
  pub reported : Reported text

-- why their text is not written: the input is refused, there is none, or the output failed, where standard output accepted a part of the text
abbrev pub IsNotCanonised : KeyOrder → Options → List ℕ → Output → Option Files → Option (List ℕ) → Option (List ℕ) → Fault → Type 0
IsNotCanonised o options source output held before after (faults.Refused f) =
    (input : List ℕ) × IsInput held source options.hex input × IsRefusal options.limits o input f × IsOfInput f.reason
IsNotCanonised o options source output held before after faults.CannotPrint =
    HasText o options source output.form held (GoesInPart before after) × IsNotPut output.path.now faults.CannotPrint
IsNotCanonised o options source output held before after (faults.CannotWrite named) =
    HasText o options source output.form held (λ text. IsNotPut output.path.now (faults.CannotWrite named))
IsNotCanonised o options source output held before after fault = IsNoInput held source options.hex fault

-- the first file is one valid item, and the second holds its canonical bytes
pub record HoldsCanonical (limits : Bounds) (o : KeyOrder) (before after : Option (List ℕ)) : Type 0 where
  pub input : List ℕ
  pub canonical : List ℕ
  pub read : before ≡ Some input
  pub is : IsCanonicalOf limits o input canonical
  pub written : after ≡ Some canonical

-- why no file in memory gets them: the source is refused or missing, the target was not written, or memory was refused for a
-- source that exists
abbrev pub IsNotHeld : Bounds → KeyOrder → Files → List ℕ → List ℕ → Fault → Type 0
IsNotHeld limits o files source target (faults.Refused f) = (input : List ℕ) × (files source ≡ Some input) × IsRefusal limits o input f × IsOfInput f.reason
IsNotHeld limits o files source target (faults.CannotRead named) = (named.now ≡ source) × (files source ≡ None)
IsNotHeld limits o files source target (faults.CannotWrite named) = IsNotPut target (faults.CannotWrite named)
IsNotHeld limits o files source target faults.CannotPrint = IsNotPut target faults.CannotPrint
IsNotHeld limits o files source target faults.Memory = files source ≢ None
IsNotHeld limits o files source target _ = ⊥
