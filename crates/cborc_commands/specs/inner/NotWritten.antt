-- Why a text is not written: there is none, or the output failed.
use Rattle.std.specs.Prelude.{ℕ, ◌≡◌, ◌⊎◌, List, Option}
use Rattle.cbor_head.specs.{Prelude.Bounds, declared.order.KeyOrder.KeyOrder, declared.reason.Refusal.Refusal}
use Rattle.cbor_reader.specs.Canonicalise.{IsCanonicalOf, IsRefusal}
use Rattle.cborc_commands.specs.declared.fault.Fault.TheVariants as faults
use Rattle.cborc_commands.specs.{Fault.IsOfInput, declared.fault.Fault.Fault, Texts.GoesInPart}

-- Why there is none: the input is refused, or memory was refused for the input or for its canonical bytes.
abbrev pub IsNoText : Bounds → KeyOrder → List ℕ → Fault → Type 0
IsNoText limits o input (faults.Refused f) = IsRefusal limits o input f × IsOfInput f.reason
IsNoText limits o input faults.Memory =
    ((f : Refusal) × IsRefusal limits o input f × ¬ IsOfInput f.reason) ⊎ ((canonical : List ℕ) × IsCanonicalOf limits o input canonical)
IsNoText limits o input _ = ⊥

-- why a text was not written whole: the output failed after a part of it, or memory was refused before
abbrev pub IsNotTaken : List ℕ → Option (List ℕ) → Option (List ℕ) → Fault → Type 0
IsNotTaken text before after faults.CannotPrint = GoesInPart before after text
IsNotTaken text before after faults.Memory = after ≡ before
IsNotTaken text before after _ = ⊥
