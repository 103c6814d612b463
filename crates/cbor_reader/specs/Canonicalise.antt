-- What an input becomes: the canonical bytes of its item, or the refusal (RFC 8949, sections 4.2 and 5.3).
use Rattle.std.specs.Prelude.{ℕ, ◌^◌, ◌≡◌, ◌<◌, ◌≤◌, ◌↔◌, ◌⊎◌, List, length}
use Rattle.cbor_head.specs.Prelude.{Bounds, Same, Spelling, IsItem, spell, value_of, canonical, plain, IsVerdict, accepted, refusal}
use Rattle.cbor_head.specs.declared.reason.Reason.TheVariants.{Trailing, CanonicalTooLong, Memory}
use Rattle.cbor_head.specs.declared.{order.KeyOrder.KeyOrder, reason.Refusal.Refusal, reason.Reason.Reason}
use Rattle.theory_verdicts.specs.Refusals.{IsFormReason, IsComplaintReason, IsKindReason}
use Rattle.cbor_reader.specs.WholeItem.{IsItemRefusal}

-- the whole input is one well-formed, valid item within the limits, and out is the canonical bytes of its value, which are
-- within the byte limit too
pub record IsCanonicalOf (limits : Bounds) (o : KeyOrder) (input out : List ℕ) : Type 0 where
  pub item : Spelling
  pub verdict : IsVerdict limits plain input (accepted item)
  pub whole : spell item ≡ input
  pub canonical_bytes : out ≡ canonical o (value_of item)
  pub fits : length out ≤ limits.bytes

-- The results for this input and for another, in one order and within any limits, are equal exactly if the two are items of
-- the same value.
abbrev pub DeterminesItsValue : ℕ → KeyOrder → List ℕ → List ℕ → Type 0
DeterminesItsValue d o input out =
    (limits : Bounds) (other b : List ℕ) (s t : Spelling) → limits.bytes ≤ 2 ^ 62 → IsItem d s input → IsCanonicalOf limits o other b → IsItem limits.depth t other
    → (out ≡ b) ↔ Same (value_of s) (value_of t)

-- the refusal of an input that has no result, or for which memory was refused
pub data IsRefusal (limits : Bounds) (o : KeyOrder) (input : List ℕ) (f : Refusal) : Type 0 where
  -- it is not one valid item, or memory was refused
  of_item : IsItemRefusal limits plain input f → IsRefusal limits o input f
  -- the item's canonical bytes are more than the limit
  canonical_too_long : (item : Spelling) → IsVerdict limits plain input (accepted item) → spell item ≡ input
      → limits.bytes < length (canonical o (value_of item)) → f ≡ refusal CanonicalTooLong (length input) (length input) → IsRefusal limits o input f

-- how refused memory is reported: at the start of the input; or at its end, if the result is known but could not be copied
pub data IsMemoryRefusal (limits : Bounds) (o : KeyOrder) (input : List ℕ) (f : Refusal) : Type 0 where
  at_start : f ≡ refusal Memory 0 0 → IsMemoryRefusal limits o input f
  at_copy : (outcome : List ℕ) → IsCanonicalOf limits o input outcome → f ≡ refusal Memory (length input) (length input) → IsMemoryRefusal limits o input f

-- the reasons that `canonicalise` returns: 1 to 13, 19 and 20
abbrev pub IsCanonicaliserReason : Bounds → Reason → Type 0
IsCanonicaliserReason limits x =
    IsFormReason x ⊎ (IsComplaintReason plain x ⊎ IsKindReason limits plain x) ⊎ (x ≡ Trailing) ⊎ (x ≡ CanonicalTooLong) ⊎ (x ≡ Memory)
