-- Whether the bytes of a file are one accepted item, and which.
use Rattle.std.proofs.Common.{ℕ, ◌≡◌, ◌∙◌, List, length, sym, refl, ◌↔◌}
use Rattle.cbor_head.specs.Prelude.{plain, Bounds, Spelling, spell, value_of, accepted, IsVerdict}
use Rattle.theory_verdicts.specs.Readers.{IsReadAs}
use Rattle.cbor_reader.specs.Headline.{IsValidItem}
use Rattle.cborc_commands.specs.Check.{IsWhole}

-- valid items are what the plain verdict accepts whole
abbrev pub AreAccepted : Bounds → List ℕ → Type 0
AreAccepted limits input = (s : Spelling) → IsValidItem limits input s ↔ (IsVerdict limits plain input (accepted s) × (spell s ≡ input))

-- the value of the item that a whole input is
pub read_as : (limits : Bounds) (input : List ℕ) (size : ℕ) (w : IsWhole limits plain input size) → IsReadAs limits plain input (value_of w.0.item) (length input)
read_as limits input size (h, e) = record { read = record { item = h.item; verdict = h.verdict; size = sym e ∙ h.size }; value = refl }
