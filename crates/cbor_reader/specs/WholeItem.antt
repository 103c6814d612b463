-- Which inputs are one whole valid item, and why others are not (RFC 8949, sections 3, 4.2 and 5.3).
use Rattle.std.specs.Prelude.{ℕ, ◌≡◌, ◌≢◌, ◌<◌, List, length}
use Rattle.cbor_head.specs.Prelude.{Bounds, Spelling, Rules, refusal}
use Rattle.cbor_head.specs.declared.reason.{Reason.TheVariants.Trailing, Reason.TheVariants.Read, Refusal.Refusal}
use Rattle.theory_verdicts.specs.Readers.{IsRead, IsUnread}
use Rattle.cbor_reader.specs.Headline.{IsValidItem}

-- the whole input is one item: well-formed, valid, and within the limits
abbrev pub IsWholeItem : Bounds → List ℕ → Type 0
IsWholeItem limits input = (s : Spelling) × IsValidItem limits input s

-- the refusal of an input that is not one item by these rules, or for which memory was refused
pub data IsItemRefusal (limits : Bounds) (r : Rules) (input : List ℕ) (f : Refusal) : Type 0 where
  -- the verdict on the start of the input, or memory was refused; reading a slice cannot fail
  unread : IsUnread limits r input f → f.reason ≢ Read → IsItemRefusal limits r input f
  -- a byte follows the item
  trailing : (count : ℕ) → IsRead limits r input count → count < length input → f ≡ refusal Trailing count count → IsItemRefusal limits r input f
